use Rattle.std.proofs.Common.{◌∙◌, ap, sym}
use Rattle.ov_snap.specs.Logs.{core_made}
use Rattle.ov_hall.proofs.PassCalls as pass
use Rattle.ov_hall.proofs.core_shared_by_drivers.Hall.look_at.Given as given
use Rattle.ov_hall.proofs.core_shared_by_drivers.Hall.look_at.Goals as goal

called : (g : given.Over) (c : goal.After-drop-state g)
    → pass.IsPassCall c.pass.inside.driver c.pass.inside.stand c.look_at-answer.new.stand c.args.pass
    c.deref_mut.result.now c.deref_mut.result.now
called g c = record {
  one = c.pass.invariant;
  handed = c.pass.view_is;
  began = c.look_at-answer.ensures.began;
  seen = c.look_at-answer.ensures.seen;
}

pub returns-clause-answer : goal.returns-clause-answer
returns-clause-answer g c =
    let a = c.look_at-answer.ensures.answer in
    let saw = ap (λ t. t.seen) (pass.given_back _ _ _ _ _ _ (called g c)) in
    (a.0, a.1 ∙ ap (core_made g.N.HallName.params) (sym saw), a.2)
