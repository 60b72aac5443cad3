-- what is counted so far, and then of the marks that are left, is what is counted of all
use Rattle.std.proofs.Common.{◌≡◌, drop, None}
use Rattle.ov_ids.specs.declared.id.MsgId.{MsgId}
use Rattle.ov_grow.specs.Code.Counting.{counted_all, counts_at, no_counts}
use Rattle.ov_grow.proofs.message_counts.message_counts.Given as goal

abbrev pub invariant-loop-mark : goal.invariant-loop-mark
invariant-loop-mark l = (id : MsgId)
    → counted_all id l.last (drop l.mark-index l.marks) (counts_at l.counts id) ≡ counted_all id None l.marks no_counts
