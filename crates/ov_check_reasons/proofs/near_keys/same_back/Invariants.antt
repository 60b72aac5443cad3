-- so many are alike, and the bytes that are left
use Rattle.std.proofs.Common.{◌≤◌, ◌-◌, length}
use Rattle.ov_check_reasons.proofs.near_keys.same_back.Given as goal

abbrev pub invariant-loop-same : goal.invariant-loop-same
invariant-loop-same l = (l.same ≤ length l.a) × (l.same ≤ length l.b)

abbrev pub decreases-loop-same : goal.decreases-loop-same
decreases-loop-same l = length l.a - l.same
