use Rattle.std.proofs.Common.{ℕ, ◌<◌, ◌≤◌}
use Rattle.ov_flow.specs.Code.Stamped.{stamp_at}
use Rattle.ov_flow.proofs.place_table.wipe.Given as goal

abbrev pub invariant-loop-i : goal.invariant-loop-i
invariant-loop-i l = (v : ℕ) → v < l.i → stamp_at l.cells v ≤ 0
