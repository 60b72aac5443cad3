use Rattle.ov_snap.proofs.Keeping.{sound_new}
use Rattle.ov_snap.proofs.snapshot_core.Core.new.Goals as goal

pub invariant_of-result : goal.invariant_of-result
invariant_of-result c =
    sound_new c.args.params c.new.result c.new-2.result.items c.new-3.result.items c.new-4.result c.new.ensures
    c.new-2.ensures.items c.new-3.ensures.items c.new-4.ensures
