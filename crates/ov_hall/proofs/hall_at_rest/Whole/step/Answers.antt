use Rattle.std.proofs.Common.{ap, false, sym}
use Rattle.ov_snap.specs.Logs.{core_made}
use Rattle.ov_hall.specs.Passes.{first_seen}
use Rattle.ov_hall.proofs.SoleHand.{exact, happened_as, marked}
use Rattle.ov_hall.proofs.Histories.{if_ok}
use Rattle.ov_hall.proofs.hall_at_rest.Whole.step.Goals as goal

pub invariant_of-self : goal.invariant_of-self
invariant_of-self g c =
    let i = c.self.invariant in
    let x = exact g.N.HallName.drivers c.self.inside.stand c.step.new.stand c.self.inside.state c.step.new.self
    c.args.self.now i.0 c.self.view_is c.step.ensures.began c.step.ensures.log.below c.step.ensures.seen in
    ((x.2, i.0.1), sym x.1, i.2, i.3, i.4)

pub returns-clause-happened : goal.returns-clause-happened
returns-clause-happened g c =
    let params = g.N.HallName.params in
    let x = exact g.N.HallName.drivers c.self.inside.stand c.step.new.stand c.self.inside.state c.step.new.self
    c.args.self.now c.self.invariant.0 c.self.view_is c.step.ensures.began c.step.ensures.log.below
    c.step.ensures.seen in
    if_ok c.step.result _ _ (λ e h. happened_as _ _ c.args.event c.args.words.now e h.0 _ (ap (core_made params) x.0)
    (marked params c.self.inside.state c.args.self.now c.step.new.self (first_seen c.step.new.stand) false h.0 x.0 x.1
    h.2).0 h.1) c.step.ensures.happened

pub returns-clause-marked : goal.returns-clause-marked
returns-clause-marked g c =
    let params = g.N.HallName.params in
    let x = exact g.N.HallName.drivers c.self.inside.stand c.step.new.stand c.self.inside.state c.step.new.self
    c.args.self.now c.self.invariant.0 c.self.view_is c.step.ensures.began c.step.ensures.log.below
    c.step.ensures.seen in
    if_ok c.step.result _ _ (λ e h. (marked params c.self.inside.state c.args.self.now c.step.new.self
    (first_seen c.step.new.stand) false h.0 x.0 x.1 h.2).1) c.step.ensures.happened
