use Rattle.std.proofs.Common.{◌≡◌, ◌≤◌, length, drop}
use Rattle.std.specs.FinMap as map
use Rattle.ov_plum.proofs.map_by_id.copy_of.Given as goal

abbrev pub invariant-loop-i : goal.invariant-loop-i
invariant-loop-i g l = (l.i ≤ length l.entries.entries) × (l.copy ≡ map.from_entries (drop l.i l.entries.entries))

abbrev pub decreases-loop-i : goal.decreases-loop-i
decreases-loop-i g l = l.i
