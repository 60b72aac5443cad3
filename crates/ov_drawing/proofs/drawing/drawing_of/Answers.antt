-- The tables say what the certificate and the paths say, so what is drawn by them is right.
use Rattle.std.proofs.Common.{◌∙◌, List, sym, subst}
use Rattle.ov_drawing.specs.declared.drawing.DrawnLink.{DrawnLink}
use Rattle.ov_drawing.specs.Drawn.{DrawsLinks}
use Rattle.ov_drawing.proofs.Parted.{none_across}
use Rattle.ov_drawing.proofs.Tabled.{links_drawn}
use Rattle.ov_drawing.proofs.drawing.drawing_of.Goals as goal

pub returns-clause-links : goal.returns-clause-links
returns-clause-links c =
    let g = c.args.graph.now in
    let cert = c.args.cert.now in
    let ps = c.args.paths.now in
    subst (λ (drawn : List DrawnLink). DrawsLinks g cert ps drawn)
    (sym (c.new-3.ensures ∙ c.in_ok-links.ensures))
    (links_drawn cert c.in_ok-classes.classes c.in_ok-numbers.numbers ps c.in_ok-classes.ensures
    c.in_ok-numbers.ensures g.links (λ l h. (c.nodes.ensures.graph.joins l h).0))

pub returns-clause-parted : goal.returns-clause-parted
returns-clause-parted c =
    λ q valid. none_across c.args.graph.now q c.args.cert.now c.args.paths.now _ (returns-clause-links c) valid
