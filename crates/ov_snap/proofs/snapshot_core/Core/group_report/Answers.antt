use Rattle.std.proofs.Common.{refl}
use Rattle.ov_snap.specs.Code.Kept.{core_of}
use Rattle.ov_snap.proofs.Keeping.{filed_so, if_some}
use Rattle.ov_snap.proofs.snapshot_core.Core.group_report.Goals as goal

pub returns-clause-is_true : goal.returns-clause-is_true
returns-clause-is_true c =
    if_some _ _ c.find.result
    (λ r h. filed_so (core_of c.self.inside) c.args.self.now c.self.inside.reports refl c.self.view_is c.self.invariant
    r.now h.0)
    c.find.ensures.some
