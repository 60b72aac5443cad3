-- One column more.
use Rattle.ov_crew.proofs.Ascending.{column_more}
use Rattle.ov_crew.proofs.ascending_piece_lookup.column_from.Goals as goal

pub loop-at-preserved : goal.loop-at-preserved
loop-at-preserved c =
    let i = c.loop-at.invariant in
    record {
      reached = column_more c.args.members c.args.number c.loop-at.at i.reached c.loop-at-test.true c.if-at-number.true;
      level = i.level;
      first = i.first;
    }
