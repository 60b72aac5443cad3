use Rattle.std.proofs.Common.{Bool}
use Rattle.ov_grow.specs.Broadcasts.{FiresIfItRuns}
use Rattle.ov_grow.specs.Code.Standing.{IsNoWay}
use Rattle.ov_grow.proofs.Going.{passes_on}
use Rattle.ov_grow.proofs.NoBroadcast.{no_way_timer}
use Rattle.ov_grow.specs.Faults.{IsFull}
use Rattle.ov_grow.proofs.Full.{timer_full}
use Rattle.ov_grow.proofs.growth_in_progress.Growing.fire_if_it_runs.Goals as goal

pub returns-in_err-act-clause-refused : goal.returns-in_err-act-clause-refused
returns-in_err-act-clause-refused c =
    let fault = c.in_err-act.field-0.0 in
    passes_on (IsNoWay (λ s u. (fired : Bool) × FiresIfItRuns c.args.node c.args.id.now s fired u) c.args.self.now)
    c.from_residual.result fault c.from_residual.ensures.1
    (no_way_timer c.args.node c.args.id.now c.args.self.now fault
    (c.timer_runs.ensures.0 c.if-not-timer_runs.false) c.in_err-act.ensures.refused)

pub returns-in_err-act-clause-full : goal.returns-in_err-act-clause-full
returns-in_err-act-clause-full c =
    let fault = c.in_err-act.field-0.0 in
    passes_on IsFull c.from_residual.result fault c.from_residual.ensures.1
    (timer_full c.args.self.now c.args.node c.args.id.now fault (c.timer_runs.ensures.0 c.if-not-timer_runs.false)
    c.in_err-act.ensures.judged)
