-- The outline names the cut of the deciding piece, and has no paths.
use Rattle.std.proofs.Common.{◌∙◌, ◌+◌, ℕ, sym, ap, subst}
use Rattle.ov_even.specs.Answer.{NamesParting}
use Rattle.ov_even.proofs.AnalysisSteps.Assembling.{names_cut, level_under}
use Rattle.ov_even.proofs.AnalysisSteps.Outlining.{outlined}
use Rattle.ov_even.proofs.outline_of_settled_pieces.split_outline.Goals as goal

pub returns : goal.returns
returns c =
    let g = c.args.graph.now in
    let q = c.args.group.now in
    let s = c.args.first.now in
    let split = c.in_ok-split_of.field-0 in
    let made = c.in_ok-split_of.ensures in
    let level = level_under g q s.piece c.level-k.result c.requires.first.first.piece c.level-k.ensures in
    let names = names_cut g q s c.in-Cut.parting split c.requires.first c.in-Cut.is
    (level.1 ∙ ap (λ (k : ℕ). k + 1) (sym made.k)) (subst (NamesParting split) c.deref.ensures made.names) in
    outlined g q split c.nodes.ensures.graph c.requires.group c.requires.apart names
    (made.pairs ∙ c.new.ensures.items) (made.fans ∙ c.new-2.ensures.items)
