use Rattle.std.proofs.Common.{◌∙◌, ap}
use Rattle.ov_snap.specs.Logs.{core_made}
use Rattle.ov_hall.specs.Passes.{having_seen}
use Rattle.ov_hall.specs.Code.Rules.{log_in}
use Rattle.ov_hall.proofs.Histories.{of_hall_seen, stands_as}
use Rattle.ov_hall.proofs.locked_state.State.look_at.Goals as goal

pub invariant_of-stand : goal.invariant_of-stand
invariant_of-stand g c =
    let log = log_in c.self.inside.place.me.0 in
    let ts = c.stand.inside.place.me.0.tickets in
    let params = g.N.HallName.params in
    let n = g.N.HallName.drivers in
    let s = stands_as params n (having_seen log ts) c.look.new.seat.me c.look.ensures.seat
    (of_hall_seen params n log ts c.stand.invariant.2 c.self.invariant.2.log_is.steps) in
    (c.look.ensures.ids.1 ∙ c.stand.invariant.0, s.0, s.1)

pub returns-clause-answer : goal.returns-clause-answer
returns-clause-answer g c =
    (_, c.self.invariant.2.core ∙ ap (core_made g.N.HallName.params) c.self.view_is, c.f.ensures)
