use Rattle.ov_snap.specs.Code.Kept.{core_of}
use Rattle.ov_snap.proofs.DeskCalls.{kept_sound}
use Rattle.ov_snap.proofs.snapshot_core.Core.keep_desk.Goals as goal

pub invariant_of-self-2 : goal.invariant_of-self-2
invariant_of-self-2 c =
    kept_sound (core_of c.self.inside) c.args.self.now c.args.desk c.push.new.self.items c.self.view_is c.self.invariant
    c.requires.room c.requires.own c.in_ok-push.ensures.items
