use Rattle.std.proofs.Common.{◌≢◌, ℕ, take}
use Rattle.ov_ids.specs.Members.{Has}
use Rattle.ov_articulations.proofs.articulation_count.other_outside.Given as goal

abbrev pub invariant-loop-other : goal.invariant-loop-other
invariant-loop-other l = (x : ℕ) → Has (take l.other-index l.component) x → x ≢ l.node → Has l.part x
