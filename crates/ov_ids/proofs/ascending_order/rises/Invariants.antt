-- what is left decides
use Rattle.std.proofs.Common.{◌≡◌, None, drop}
use Rattle.ov_ids.specs.Ascending.{ascends_after}
use Rattle.ov_ids.proofs.ascending_order.rises.Given as goal

abbrev pub invariant-loop-id : goal.invariant-loop-id
invariant-loop-id l = ascends_after None l.ids ≡ ascends_after l.before (drop l.id-index l.ids)
