use Rattle.std.proofs.Common.{ap, true, sym}
use Rattle.ov_snap.specs.Logs.{core_made}
use Rattle.ov_hall.specs.Passes.{first_seen}
use Rattle.ov_hall.proofs.SoleHand.{exact, filed_as, marked}
use Rattle.ov_hall.proofs.Histories.{if_ok}
use Rattle.ov_hall.proofs.hall_at_rest.Whole.file.Goals as goal

pub invariant_of-self : goal.invariant_of-self
invariant_of-self g c =
    let i = c.self.invariant in
    let x = exact g.N.HallName.drivers c.self.inside.stand c.file.new.stand c.self.inside.state c.file.new.self
    c.args.self.now i.0 c.self.view_is c.file.ensures.began c.file.ensures.log.below c.file.ensures.seen in
    ((x.2, i.0.1), sym x.1, i.2, i.3, i.4)

pub returns-clause-filed : goal.returns-clause-filed
returns-clause-filed g c =
    let params = g.N.HallName.params in
    let x = exact g.N.HallName.drivers c.self.inside.stand c.file.new.stand c.self.inside.state c.file.new.self
    c.args.self.now c.self.invariant.0 c.self.view_is c.file.ensures.began c.file.ensures.log.below
    c.file.ensures.seen in
    if_ok c.file.result _ _ (λ e h. filed_as _ _ c.args.report h.0 _ (ap (core_made params) x.0)
    (marked params c.self.inside.state c.args.self.now c.file.new.self (first_seen c.file.new.stand) true h.0 x.0 x.1
    h.2).0 h.1) c.file.ensures.filed

pub returns-clause-marked : goal.returns-clause-marked
returns-clause-marked g c =
    let params = g.N.HallName.params in
    let x = exact g.N.HallName.drivers c.self.inside.stand c.file.new.stand c.self.inside.state c.file.new.self
    c.args.self.now c.self.invariant.0 c.self.view_is c.file.ensures.began c.file.ensures.log.below
    c.file.ensures.seen in
    if_ok c.file.result _ _ (λ e h. (marked params c.self.inside.state c.args.self.now c.file.new.self
    (first_seen c.file.new.stand) true h.0 x.0 x.1 h.2).1) c.file.ensures.filed
