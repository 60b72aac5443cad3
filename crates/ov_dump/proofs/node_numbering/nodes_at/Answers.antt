-- The node at one place more.
use Rattle.std.proofs.Common.{◌+◌, arith, get_or, set, sym, subst}
use Rattle.ov_ids.proofs.Members.{has_place}
use Rattle.ov_graph.specs.Links.{most_of_any_graph}
use Rattle.ov_dump.proofs.Keyed.{few_places}
use Rattle.ov_dump.proofs.Numberings.{NodesSoFar, any_default, nodes_all, nodes_more}
use Rattle.ov_dump.proofs.node_numbering.nodes_at.Goals as goal

pub overflow_cast-at : goal.overflow_cast-at
overflow_cast-at c =
    let all = few_places c.args.count most_of_any_graph c.args.order.now c.requires.order in
    let low = c.loop-at-test.true in
    let few = c.requires.few in omega (arith, all, low, few)

pub overflow_add-at : goal.overflow_add-at
overflow_add-at c =
    let all = few_places c.args.count most_of_any_graph c.args.order.now c.requires.order in
    let low = c.loop-at-test.true in
    let few = c.requires.few in omega (arith, all, low, few)

pub index_mut-requires : goal.index_mut-requires
index_mut-requires c =
    let order = c.args.order.now in
    let at = c.loop-at.at in
    let own = ((c.requires.order.each (get_or order at 0)).0 (has_place order at 0 c.loop-at-test.true)).0 in
    let len = c.loop-at.invariant.len in omega (arith, own, len)

pub loop-at-preserved : goal.loop-at-preserved
loop-at-preserved c =
    let count = c.args.count in
    let order = c.args.order.now in
    let at = c.loop-at.at in
    let place = get_or order at 0 in
    let nodes = c.loop-at.nodes.items in
    subst (λ i. NodesSoFar count order (at + 1) (set nodes place i)) (sym c.new-in-loop-at.ensures)
    (nodes_more count most_of_any_graph order at place nodes c.requires.order c.loop-at-test.true
    (any_default order at 0 place c.loop-at-test.true) c.loop-at.invariant)

pub returns : goal.returns
returns c =
    nodes_all c.args.count c.args.order.now c.loop-at.at c.loop-at.nodes.items c.loop-at-test.false c.loop-at.invariant
