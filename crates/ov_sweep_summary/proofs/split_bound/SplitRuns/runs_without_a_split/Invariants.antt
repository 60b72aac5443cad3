use Rattle.std.proofs.Common.{ℕ, ◌<◌, ◌≤◌}
use Rattle.ov_sweep_summary.specs.SplitBounds.{LiesBelow, split_runs}
use Rattle.ov_sweep_summary.proofs.split_bound.SplitRuns.runs_without_a_split.Given as goal

abbrev pub invariant-loop-runs : goal.invariant-loop-runs
invariant-loop-runs l =
    (l.self.runs ≤ l.runs)
    × ((n : ℕ) → l.self.runs ≤ n → n < l.runs → LiesBelow (split_runs l.self.split n) l.bound → ⊥)
