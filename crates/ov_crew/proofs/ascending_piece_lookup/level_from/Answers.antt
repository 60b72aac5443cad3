-- One level more.
use Rattle.std.proofs.Common.{arith}
use Rattle.ov_crew.proofs.Ascending.{column_level, level_next}
use Rattle.ov_crew.proofs.ascending_piece_lookup.level_from.Goals as goal

pub overflow_add-at : goal.overflow_add-at
overflow_add-at c =
    let n = c.args.nodes in
    let l = c.loop-size in
    let few = c.requires.nodes in
    omega (arith, few, column_level n c.args.members c.args.number l.at c.requires.below l.invariant.reached)

pub loop-size-smaller : goal.loop-size-smaller
loop-size-smaller c =
    let l = c.loop-size in
    omega (
      arith,
      column_level c.args.nodes c.args.members c.args.number l.at c.requires.below l.invariant.reached,
    )

pub loop-size-preserved : goal.loop-size-preserved
loop-size-preserved c =
    let l = c.loop-size in
    record {
      reached = level_next c.args.members c.args.number l.size l.at l.invariant.reached l.invariant.size
          c.loop-size-test.true;
      size = c.level_size-size-in-loop-size.ensures;
    }
