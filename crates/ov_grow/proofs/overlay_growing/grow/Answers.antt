use Rattle.std.proofs.Common.{sym, subst}
use Rattle.ov_snap.specs.CoreState.{HasReportOfAll}
use Rattle.ov_snap.specs.ReportState.{ReportState}
use Rattle.ov_grow.specs.Growing.{Grows, IsGrowRefusal}
use Rattle.ov_grow.specs.Replay.{Replays}
use Rattle.ov_grow.specs.declared.overlay_growing.Grown.{Grown}
use Rattle.ov_grow.proofs.Going.{passes_on}
use Rattle.ov_grow.proofs.overlay_growing.grow.Goals as goal

pub returns-clause-grows : goal.returns-clause-grows
returns-clause-grows c =
    subst (λ (g : Grown). Grows c.args.options.now g.script.text g.core.world g.settled g.crashed g.healed)
    (sym c.into_grown.ensures) c.in_ok-logged.ensures.grows.grows

pub returns-clause-replays : goal.returns-clause-replays
returns-clause-replays c =
    subst (λ (g : Grown). Replays g.script.text g.core) (sym c.into_grown.ensures) c.in_ok-logged.ensures.replays

pub returns-clause-settled : goal.returns-clause-settled
returns-clause-settled c =
    subst (λ (g : Grown). (r : ReportState) × HasReportOfAll g.core g.settled.moment r) (sym c.into_grown.ensures)
    c.in_ok-logged.ensures.settled

pub returns-clause-crashed : goal.returns-clause-crashed
returns-clause-crashed c =
    subst (λ (g : Grown). (r : ReportState) × HasReportOfAll g.core g.crashed.moment r) (sym c.into_grown.ensures)
    c.in_ok-logged.ensures.crashed

pub returns-clause-healed : goal.returns-clause-healed
returns-clause-healed c =
    subst (λ (g : Grown). (r : ReportState) × HasReportOfAll g.core g.healed.moment r) (sym c.into_grown.ensures)
    c.in_ok-logged.ensures.healed

pub returns-in_err-logged-clause-refused : goal.returns-in_err-logged-clause-refused
returns-in_err-logged-clause-refused c = passes_on (IsGrowRefusal c.args.options.now) c.from_residual.result
    c.in_err-logged.field-0.0 c.from_residual.ensures.1 c.in_err-logged.ensures.refused
