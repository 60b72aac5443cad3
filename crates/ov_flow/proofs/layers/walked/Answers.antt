-- What a tree names are places of nodes.
use Rattle.std.proofs.Common.{arith, length}
use Rattle.ov_split.specs.Places.{net_by_place}
use Rattle.ov_flow.proofs.Visiting.{read_below}
use Rattle.ov_flow.proofs.layers.walked.Goals as goal

pub put-requires-in-loop-at : goal.put-requires-in-loop-at
put-requires-in-loop-at g c = (
  omega arith,
  (let t = c.args.tree.now in
      let g = c.requires.grown in
      let l = read_below (net_by_place c.args.net.now) (length c.args.net.now.graph.nodes) g.0 t.order.items
      t.parents.items t.ways.items c.loop-at.at c.index.result.now c.requires.ready.placed g.1.is_tree
      c.loop-at.invariant.within c.index.ensures in
      let few = c.requires.ready.room in
      omega (arith, l, few)),
)
