-- What a tree names are places of nodes.
use Rattle.std.proofs.Common.{◌∙◌, length, None, sym, arith}
use Rattle.std.proofs.lemmas.List.{get_or_read}
use Rattle.ov_split.specs.Places.{net_by_place}
use Rattle.ov_flow.proofs.Visiting.{read_below}
use Rattle.ov_flow.proofs.Seeking.{tree_way_below}
use Rattle.ov_flow.proofs.layers.add_way.Goals as goal

pub has-requires : goal.has-requires
has-requires g c = (
  omega arith,
  (let t = c.args.tree.now in
      let g = c.requires.grown in
      let l = read_below (net_by_place c.args.net.now) (length c.args.net.now.graph.nodes) g.0 t.order.items
      t.parents.items t.ways.items c.args.k c.index.result.now c.requires.ready.placed g.1.is_tree c.requires.within
      c.index.ensures in
      let few = c.requires.ready.room in
      omega (arith, l, few)),
)

pub put-requires : goal.put-requires
put-requires g c = (
  omega arith,
  (let t = c.args.tree.now in
      let g = c.requires.grown in
      let long = g.1.is_tree.long in
      let within = c.requires.within in
      let read = get_or_read t.ways.items c.args.k c.index-2.result.now (omega (arith, long, within)) c.index-2.ensures
      None in
      let l = tree_way_below (net_by_place c.args.net.now) (length c.args.net.now.graph.nodes) g.0 t.order.items
      t.parents.items t.ways.items c.args.k c.in-Some.w c.requires.ready.placed g.1.is_tree c.requires.later within
      (sym read ∙ c.in-Some.is) in
      let few = c.requires.ready.room in
      omega (arith, l, few)),
)

pub put-requires-in-None : goal.put-requires-in-None
put-requires-in-None g c = (
  omega arith,
  (let t = c.args.tree.now in
      let g = c.requires.grown in
      let within = c.requires.within in
      let count = g.1.is_tree.count in
      let p = c.index-in-None.result.now in
      let e = get_or_read t.parents.items c.args.k p (omega (arith, count, within)) c.index-in-None.ensures 0 in
      let b = g.1.is_tree.parent c.args.k c.requires.later within in
      let l = read_below (net_by_place c.args.net.now) (length c.args.net.now.graph.nodes) g.0 t.order.items
      t.parents.items t.ways.items p c.index-in-None-2.result.now c.requires.ready.placed g.1.is_tree
      (omega (arith, e, b, within)) c.index-in-None-2.ensures in
      let few = c.requires.ready.room in
      omega (arith, l, few)),
)
