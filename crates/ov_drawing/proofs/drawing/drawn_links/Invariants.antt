-- with what is drawn of the links that are left, all links are drawn
use Rattle.std.proofs.Common.{◌≡◌, ◌++◌, map}
use Rattle.ov_drawing.specs.Code.Tables.{link_by}
use Rattle.ov_drawing.proofs.drawing.drawn_links.Given as goal

abbrev pub invariant-loop-from : goal.invariant-loop-from
invariant-loop-from l =
    l.drawn.items ++ map (link_by l.classes l.numbers) l.from-iterator
    ≡ map (link_by l.classes l.numbers) l.graph.links
