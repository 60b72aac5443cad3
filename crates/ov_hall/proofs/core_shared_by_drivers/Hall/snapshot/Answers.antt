use Rattle.std.proofs.Common.{refl, subst, IfOk}
use Rattle.ov_net.specs.declared.event.Event.TheVariants as event
use Rattle.ov_snap.specs.DriverSteps.{HasStepped}
use Rattle.ov_hall.proofs.core_shared_by_drivers.Hall.snapshot.Goals as goal

pub returns-in-Ok-clause-happened : goal.returns-in-Ok-clause-happened
returns-in-Ok-clause-happened g c =
    let p = c.args.pass in
    let q = c.step-answer.result.1 in (
      c.in-Ok.entry,
      refl,
      subst (λ w. HasStepped g.N.HallName.params p event.Snapshot w c.in-Ok.entry q)
          c.new-zero.ensures.value
          (subst (λ r. IfOk r (λ e. HasStepped g.N.HallName.params p event.Snapshot c.new-zero.result e q)) c.in-Ok.is
          c.step-answer.ensures.happened),
    )
