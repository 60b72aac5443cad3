-- If there is a node, all nodes are a group.
use Rattle.std.proofs.Common.{◌∙◌, ◌<◌, List, ℕ, length, sym, subst}
use Rattle.ov_even.specs.Hauls.{Suffice}
use Rattle.ov_even.proofs.AnalysisSteps.Assembling.{some_node}
use Rattle.ov_even.proofs.assembly.assemble.Goals as goal

pub assemble_group-requires-clause-suffice : goal.assemble_group-requires-clause-suffice
assemble_group-requires-clause-suffice c =
    let g = c.args.graph.now in
    let some : 0 < length g.nodes = subst (λ (xs : List ℕ). 0 < length xs) c.nodes.ensures.nodes
    (some_node (length c.nodes.result.now) (sym c.is_empty.ensures ∙ c.if-is_empty.false)) in
    subst (λ (xs : List ℕ). Suffice g xs c.args.hauls.now) (sym c.nodes-2.ensures.nodes) (c.requires some)
