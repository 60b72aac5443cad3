use Rattle.std.proofs.Common.{refl}
use Rattle.ov_snap.specs.Code.Kept.{core_of}
use Rattle.ov_snap.proofs.Finding.{kept_at, not_kept}
use Rattle.ov_snap.proofs.snapshot_core.Core.kept.Goals as goal

pub returns-in-Some-clause-ok : goal.returns-in-Some-clause-ok
returns-in-Some-clause-ok c =
    kept_at (core_of c.self.inside) c.args.self.now c.deref.result.now c.in-Some.snapshot.now c.args.moment
    c.deref.ensures.value c.self.view_is c.self.invariant c.in-Some.ensures.some

pub returns-in-None-clause-err : goal.returns-in-None-clause-err
returns-in-None-clause-err c = (
  refl,
  not_kept (core_of c.self.inside) c.args.self.now c.deref.result.now c.args.moment c.deref.ensures.value
      c.self.view_is c.self.invariant c.in-None.ensures.none,
)
