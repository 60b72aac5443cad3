use Rattle.std.proofs.Common.{length, subst, sym}
use Rattle.ov_net.specs.Refusals.{IsRefusal}
use Rattle.ov_snap.specs.Logs.{IsLog, core_made}
use Rattle.ov_hall.proofs.Histories.{if_err, if_err_and, if_ok}
use Rattle.ov_hall.proofs.PassCalls as pass
use Rattle.ov_hall.proofs.core_shared_by_drivers.Hall.take_event.Given as given
use Rattle.ov_hall.proofs.core_shared_by_drivers.Hall.take_event.Goals as goal

called : (g : given.Over) (c : goal.After-drop-lock g)
    → pass.IsPassCall c.pass.inside.driver c.pass.inside.stand c.take_event-answer.new.stand c.args.pass
    c.deref_mut.result.now
    c.take_event-answer.new.self
called g c = record {
  one = c.pass.invariant;
  handed = c.pass.view_is;
  began = c.take_event-answer.ensures.began;
  seen = c.take_event-answer.ensures.seen;
}

pub returns-clause-happened : goal.returns-clause-happened
returns-clause-happened g c =
    if_ok c.take_event-answer.result _ _
    (λ t s. (
      s.0,
      pass.stepped _ _ _ _ _ _ (called g c) g.N.HallName.params c.args.event c.args.words.now s.0
          (s.1, s.2, s.3),
    ))
    c.take_event-answer.ensures.happened

pub returns-clause-err : goal.returns-clause-err
returns-clause-err g c =
    if_err c.take_event-answer.result _ _ (λ f same. pass.looked _ _ _ _ _ _ (called g c) same)
    c.take_event-answer.ensures.err

pub returns-clause-log : goal.returns-clause-log
returns-clause-log g c =
    subst (λ t. IsLog g.N.HallName.params g.N.HallName.drivers t.seen) (sym (pass.given_back _ _ _ _ _ _ (called g c)))
    c.take_event-answer.ensures.after

pub returns-clause-refused : goal.returns-clause-refused
returns-clause-refused g c =
    if_err_and c.take_event-answer.result _ _ _
    (λ f r same. pass.judged _ _ _ _ _ _ (called g c) (λ l. IsRefusal (core_made g.N.HallName.params l).world.net
    (length (core_made g.N.HallName.params l).world.journal) c.args.event f) same r)
    c.take_event-answer.ensures.refused c.take_event-answer.ensures.err
