-- The first of the largest components so far.
use Rattle.std.proofs.Common.{ℕ, ◌<◌, ◌≤◌}
use Rattle.ov_answers.specs.Lines.{size_at}
use Rattle.ov_answers.proofs.component_texts.first_largest.Given as goal

abbrev pub invariant-loop-place : goal.invariant-loop-place
invariant-loop-place l =
    ((q : ℕ) → q < l.place → size_at l.components q ≤ size_at l.components l.largest)
    × ((q : ℕ) → q < l.largest → size_at l.components q < size_at l.components l.largest)
