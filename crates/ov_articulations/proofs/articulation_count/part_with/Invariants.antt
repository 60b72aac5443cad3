use Rattle.std.proofs.Common.{◌≡◌, ◌<◌, ℕ, List, Some}
use Rattle.std.specs.Prelude.{slice_get}
use Rattle.ov_ids.specs.Members.{Has}
use Rattle.ov_articulations.proofs.articulation_count.part_with.Given as goal

abbrev pub invariant-loop-place : goal.invariant-loop-place
invariant-loop-place l = (j : ℕ) (p : List ℕ) → j < l.place → slice_get l.parts j ≡ Some p → ¬ Has p l.node
