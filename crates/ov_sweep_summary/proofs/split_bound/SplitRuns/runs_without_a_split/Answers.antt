use Rattle.std.proofs.Common.{◌≤◌, arith}
use Rattle.std.proofs.lemmas.Bool.{false≢true}
use Rattle.ov_sweep_summary.specs.SplitBounds.{LiesBelow, split_runs}
use Rattle.ov_sweep_summary.proofs.Bounding.{none_more}
use Rattle.ov_sweep_summary.proofs.split_bound.SplitRuns.runs_without_a_split.Goals as goal

pub loop-runs-preserved : goal.loop-runs-preserved
loop-runs-preserved c =
    let from : c.args.self.runs ≤ c.loop-runs.runs = c.loop-runs.invariant.0 in (
      omega (arith, from),
      none_more (λ n. LiesBelow (split_runs c.args.self.split n) c.args.bound) c.args.self.runs c.loop-runs.runs
          c.loop-runs.invariant.1 (λ below. absurd (false≢true (c.if-is_below.ensures.1 below))),
    )
