-- THE MAIN THEOREM: what holds of every report, whatever steps were taken; and that no step takes a report away.
use Rattle.std.specs.Prelude.{List}
use Rattle.ov_ids.specs.ParamsState.{ParamsState}
use Rattle.ov_ids.specs.Members.{Has}
use Rattle.ov_snap.specs.CoreState.{CoreState, KeepsReports}
use Rattle.ov_snap.specs.ReportState.{ReportState, IsTrueReport}
use Rattle.ov_snap.specs.Run.{CoreRun, TakesAll}
use Rattle.ov_snap.specs.declared.core_steps.CoreStep.{CoreStep}

-- for every list of steps, and every report that is filed in the core that they make: what the report says is true
abbrev pub EveryReportIsTrue : Type 0
EveryReportIsTrue = (params : ParamsState) (steps : List CoreStep) (c : CoreState) → CoreRun params steps c
    → (r : ReportState) → Has c.reports r → IsTrueReport c.world.journal r

-- whatever steps lead from one core to another: every report of the first is filed in the second, at its place
abbrev pub EveryReportStays : Type 0
EveryReportStays = (b : CoreState) (steps : List CoreStep) (u : CoreState) → TakesAll b steps u → KeepsReports b u
