use Rattle.std.proofs.Common.{ap, false, sym}
use Rattle.ov_snap.specs.Logs.{core_made}
use Rattle.ov_hall.specs.Passes.{first_seen}
use Rattle.ov_hall.proofs.SoleHand.{exact, happened_as, marked}
use Rattle.ov_hall.proofs.Histories.{if_ok}
use Rattle.ov_hall.proofs.hall_at_rest.Whole.take_event.Goals as goal

pub invariant_of-self : goal.invariant_of-self
invariant_of-self g c =
    let i = c.self.invariant in
    let x = exact g.N.HallName.drivers c.self.inside.stand c.take_event.new.stand c.self.inside.state
    c.take_event.new.self c.args.self.now i.0 c.self.view_is c.take_event.ensures.began
    c.take_event.ensures.log.below c.take_event.ensures.seen in
    ((x.2, i.0.1), sym x.1, i.2, i.3, i.4)

pub returns-clause-happened : goal.returns-clause-happened
returns-clause-happened g c =
    let params = g.N.HallName.params in
    let x = exact g.N.HallName.drivers c.self.inside.stand c.take_event.new.stand c.self.inside.state
    c.take_event.new.self c.args.self.now c.self.invariant.0 c.self.view_is c.take_event.ensures.began
    c.take_event.ensures.log.below c.take_event.ensures.seen in
    if_ok c.take_event.result _ _ (λ t h. (
      h.0,
      happened_as _ _ c.args.event c.args.words.now h.0 h.1 _
          (ap (core_made params) x.0)
          (marked params c.self.inside.state c.args.self.now c.take_event.new.self (first_seen c.take_event.new.stand)
          false h.1 x.0 x.1 h.3).0 h.2,
    )) c.take_event.ensures.happened

pub returns-clause-marked : goal.returns-clause-marked
returns-clause-marked g c =
    let params = g.N.HallName.params in
    let x = exact g.N.HallName.drivers c.self.inside.stand c.take_event.new.stand c.self.inside.state
    c.take_event.new.self c.args.self.now c.self.invariant.0 c.self.view_is c.take_event.ensures.began
    c.take_event.ensures.log.below c.take_event.ensures.seen in
    if_ok c.take_event.result _ _ (λ t h. (marked params c.self.inside.state c.args.self.now
    c.take_event.new.self (first_seen c.take_event.new.stand) false h.1 x.0 x.1 h.3).1) c.take_event.ensures.happened
