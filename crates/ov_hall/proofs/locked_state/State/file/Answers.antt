use Rattle.std.proofs.Common.{◌<◌, [], ◌∷◌, ◌++◌, ◌∙◌, ap, sym, subst, true}
use Rattle.std.proofs.lemmas.List.{append-nil}
use Rattle.ov_ids.specs.FaultOrder.{IsRefusedBy}
use Rattle.ov_snap.specs.Filing.{WasFiled}
use Rattle.ov_snap.specs.Refusals.{FilingJudged}
use Rattle.ov_snap.specs.declared.refused_core_call.CoreFault.TheVariants.{OutOfMemory}
use Rattle.ov_snap.specs.Logs.{core_made, mark}
use Rattle.ov_hall.specs.Passes.{having_seen, standing_for}
use Rattle.ov_hall.specs.Code.Rules.{log_in}
use Rattle.ov_hall.proofs.Histories.{history_more, keeps_as, log_more, low_driver, of_hall_seen, stands_as}
use Rattle.ov_hall.proofs.locked_state.State.file.Goals as goal

pub invariant_of-self : goal.invariant_of-self
invariant_of-self g c =
    let params = g.N.HallName.params in
    let n = g.N.HallName.drivers in
    let log = log_in c.self.inside.place.me.0 in
    let core = c.write_report.new.core in
    let low = low_driver params n c.args.driver c.stand.inside.place.me.0.tickets c.stand.invariant.2
    (subst (λ l. 0 < standing_for c.args.driver l) (sym c.stand.view_is) c.requires.stands) in
    let h = history_more params n log c.self.inside.core c.self.inside.entry_drivers.items
    c.self.inside.report_drivers.items c.args.driver true core c.self.inside.entry_drivers.items
    c.write_report.new.drivers.items c.self.invariant.2 low (c.args.report, c.in-Ok.ensures.filed)
    (sym (append-nil c.self.inside.entry_drivers.items)) c.in-Ok.ensures.driver in
    let k = keeps_as params n (log ++ mark c.args.driver true core ∷ []) c.add.new.all.me core
    c.self.inside.entry_drivers.items c.write_report.new.drivers.items c.add.ensures.keeper h in
    (c.add.ensures.ids.0 ∙ c.self.invariant.0, k.0, k.1)

pub invariant_of-stand : goal.invariant_of-stand
invariant_of-stand g c =
    let params = g.N.HallName.params in
    let n = g.N.HallName.drivers in
    let log = log_in c.self.inside.place.me.0 in
    let ts = c.stand.inside.place.me.0.tickets in
    let core = c.write_report.new.core in
    let new = log ++ mark c.args.driver true core ∷ [] in
    let low = low_driver params n c.args.driver ts c.stand.invariant.2
    (subst (λ l. 0 < standing_for c.args.driver l) (sym c.stand.view_is) c.requires.stands) in
    let more = log_more params n log c.args.driver true core c.self.invariant.2.log_is low
    (rw (sym c.self.invariant.2.core) (c.args.report, c.in-Ok.ensures.filed)) in
    let s = stands_as params n (having_seen new ts) c.add.new.seat.me c.add.ensures.seat
    (of_hall_seen params n new ts c.stand.invariant.2 more.steps) in
    (c.add.ensures.ids.1 ∙ c.stand.invariant.0, s.0, s.1)

pub invariant_of-stand-in-Err : goal.invariant_of-stand-in-Err
invariant_of-stand-in-Err g c =
    let params = g.N.HallName.params in
    let n = g.N.HallName.drivers in
    let log = log_in c.self.inside.place.me.0 in
    let ts = c.stand.inside.place.me.0.tickets in
    let s = stands_as params n (having_seen log ts) c.look.new.seat.me c.look.ensures.seat
    (of_hall_seen params n log ts c.stand.invariant.2 c.self.invariant.2.log_is.steps) in
    (c.look.ensures.ids.1 ∙ c.stand.invariant.0, s.0, s.1)

pub returns-in-Ok-clause-after : goal.returns-in-Ok-clause-after
returns-in-Ok-clause-after g c = (invariant_of-self g c).2.log_is

pub returns-in-Ok-clause-filed : goal.returns-in-Ok-clause-filed
returns-in-Ok-clause-filed g c =
    let params = g.N.HallName.params in
    let u = c.write_report.new.core in (
      u,
      subst (λ b. WasFiled b c.args.report u) (c.self.invariant.2.core ∙ ap (core_made params) c.self.view_is)
          c.in-Ok.ensures.filed,
      ap (λ m. log_in m.0) c.add.ensures.keeper ∙ ap (λ l. l ++ mark c.args.driver true u ∷ []) c.self.view_is,
    )

pub returns-in-Err-clause-refused : goal.returns-in-Err-clause-refused
returns-in-Err-clause-refused g c =
    subst (λ b. IsRefusedBy OutOfMemory (FilingJudged b c.args.report) c.in-Err.fault)
    (c.self.invariant.2.core ∙ ap (core_made g.N.HallName.params) c.self.view_is)
    c.in-Err.ensures.refused
