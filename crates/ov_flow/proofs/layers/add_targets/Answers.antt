-- Each end is the place of a node.
use Rattle.std.proofs.Common.{arith}
use Rattle.ov_ids.proofs.Members.{has_place}
use Rattle.ov_split.specs.Places.{net_by_place}
use Rattle.ov_flow.proofs.layers.add_targets.Goals as goal

pub clear-requires : goal.clear-requires
clear-requires g c = (
  omega arith,
  (let n = net_by_place c.args.net.now in
      let h = c.requires.ends _ (has_place c.args.ends.now c.loop-end.end-index 0 c.loop-end-test.true) in
      let l = (c.requires.ready.placed.nodes _).0 (c.requires.ready.placed.net.targets.nodes _ h) in
      let few = c.requires.ready.room in
      omega (arith, l, few)),
)
