use Rattle.ov_snap.specs.Code.Kept.{core_of}
use Rattle.ov_snap.proofs.Keeping.{filed_sound}
use Rattle.ov_snap.proofs.snapshot_core.Core.file.Goals as goal

pub invariant_of-self-2 : goal.invariant_of-self-2
invariant_of-self-2 c =
    let may = c.in_ok-judge_report.ensures in
    filed_sound (core_of c.self.inside) c.args.self.now c.args.report c.push.new.self c.self.view_is c.self.invariant
    may.valid may.ok c.in_ok-push.ensures.ok
