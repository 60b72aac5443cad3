-- Codes of a core, so that contracts can see it as a value. They say nothing else about it.
use Rattle.std.specs.Prelude.{List, refl}
use Rattle.std.specs.Coded.{Coded, code_by, coded×, coded_list}
use Rattle.ov_even.specs.Desk.{GroupDeskState}
use Rattle.ov_even.specs.contracts.group_desk.GroupDesk as desk
use Rattle.ov_net.specs.Code.Codes.{world_code}
use Rattle.ov_net.specs.World.{WorldState}
use Rattle.ov_snap.specs.CoreState.{CoreState}
use Rattle.ov_snap.specs.ReportState.{ReportState}
use Rattle.ov_snap.specs.contracts.analysis_report.Report as report
use Rattle.ov_snap.specs.contracts.kept_snapshots.Snapshot as snapshot
use Rattle.ov_snap.specs.declared.kept_snapshots.Snapshot.{Snapshot}

-- a core is the list of its parts
abbrev pub core_code : Coded CoreState
core_code =
    code_by (WorldState × (List Snapshot × (List GroupDeskState × List ReportState)))
    (coded× world_code (coded× (coded_list snapshot.the_row.coded)
    (coded× (coded_list desk.the_row.coded) (coded_list report.the_row.coded))))
    (λ b. (b.world, (b.snapshots, (b.desks, b.reports))))
    (λ p. record { world = p.0; snapshots = p.1.0; desks = p.1.1.0; reports = p.1.1.1 })
    (λ _. refl)
