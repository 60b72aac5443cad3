use Rattle.std.proofs.lemmas.Bool.{both_ways}
use Rattle.ov_graph.proofs.EvenTest.Filtered.{linked_node}
use Rattle.ov_graph.proofs.EvenTest.Walks.{linked_sym}
use Rattle.ov_graph.proofs.GraphValues.OneGraph.{linked_differ}
use Rattle.ov_net.proofs.Links.Changing.{unlinked_rests}
use Rattle.ov_net.proofs.live_graph_updating.unlink_if_linked.Goals as goal

pub unlink-requires-clause-a : goal.unlink-requires-clause-a
unlink-requires-clause-a c =
    let g = c.args.graph.now in
    linked_node g c.args.other c.args.node c.linked.ensures.graph
    (linked_sym g c.args.node c.args.other (c.linked.ensures.linked.0 c.if-linked.true))

pub unlink-requires-clause-b : goal.unlink-requires-clause-b
unlink-requires-clause-b c =
    linked_node c.args.graph.now c.args.node c.args.other c.linked.ensures.graph
    (c.linked.ensures.linked.0 c.if-linked.true)

pub unlink-requires-clause-differ : goal.unlink-requires-clause-differ
unlink-requires-clause-differ c =
    linked_differ c.args.graph.now c.args.node c.args.other c.linked.ensures.graph
    (c.linked.ensures.linked.0 c.if-linked.true)

pub returns-else-linked-clause-change : goal.returns-else-linked-clause-change
returns-else-linked-clause-change c =
    unlinked_rests c.args.graph.now c.args.node c.args.other
    (λ l. both_ways c.linked.result c.if-linked.false (c.linked.ensures.linked.1 l))
