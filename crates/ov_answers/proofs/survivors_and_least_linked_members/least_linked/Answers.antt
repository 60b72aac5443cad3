-- Each node is one.
use Rattle.std.proofs.Common.{ℕ, List, sym, subst}
use Rattle.ov_ids.specs.Members.{Has}
use Rattle.ov_ids.proofs.Members.{has_place}
use Rattle.ov_answers.proofs.survivors_and_least_linked_members.least_linked.Goals as goal

pub degree_of-degree-requires : goal.degree_of-degree-requires
degree_of-degree-requires c =
    let nodes = c.nodes-nodes.result.now in
    subst (λ (ns : List ℕ). Has ns c.node-item.result) c.nodes-nodes.ensures.nodes
    (subst (Has nodes) (sym c.node-item.is)
    (has_place nodes c.loop-node.node-index c.node-item.result c.loop-node-test.true))
