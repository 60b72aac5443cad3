-- the items so far were taken
use Rattle.std.proofs.Common.{length}
use Rattle.ov_certfile.proofs.Taking.{Taking}
use Rattle.ov_certfile.proofs.token_fields.take_list.Given as goal

abbrev pub invariant-items : goal.invariant-items
invariant-items g l = Taking g.T.Field.form g.T.Field.as_data l.fn.cursor l.items.items l.cursor

abbrev pub decreases-items : goal.decreases-items
decreases-items g l = length l.cursor
