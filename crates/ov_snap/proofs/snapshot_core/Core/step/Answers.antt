use Rattle.ov_snap.proofs.Keeping.{other_sound}
use Rattle.ov_snap.proofs.snapshot_core.Core.step.Goals as goal

pub invariant_of-self : goal.invariant_of-self
invariant_of-self c =
    let s = c.step.ensures in
    other_sound c.self.inside.world c.step.new.self c.self.inside.snapshots.items c.self.inside.desks.items
    c.self.inside.reports c.args.event c.args.words.now c.step.result c.is_snapshot.result c.if-is_snapshot.false
    c.is_snapshot.ensures
    s.judged s.step s.journal s.number s.err c.self.invariant
