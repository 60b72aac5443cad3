-- What is held is a table, and one path more is held after each walk.
use Rattle.ov_split.specs.Places.{net_by_place}
use Rattle.std.proofs.Common.{rules, arith, length}
use Rattle.ov_flow.proofs.Beginning.{held_table}
use Rattle.ov_flow.proofs.layered_walks.take_walks.Goals as goal

pub find_walk-requires : goal.find_walk-requires
find_walk-requires g c = (
  omega arith,
  (
    omega arith,
    (
      c.requires.ready,
      (
        (let w = c.loop-work.work in
            let i = c.loop-work.invariant.work in
            held_table (net_by_place c.args.net.now) (length c.args.net.now.graph.nodes) w.from w.ends.items
            c.requires.ready.placed i.room.from i.held),
        (
          search rules,
          search rules,
        ),
      ),
    ),
  ),
)
