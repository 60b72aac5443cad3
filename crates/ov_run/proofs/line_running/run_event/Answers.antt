-- What went is a prefix of the line of the entry, which is the last of the journal.
use Rattle.std.proofs.Common.{◌≡◌, ◌<◌, ◌-◌, Some, length, refl, slice_get, subst, sym}
use Rattle.ov_net.specs.declared.journal_entry_and_changes.Entry.{Entry}
use Rattle.ov_snap.specs.CoreState.{CoreState}
use Rattle.ov_snap.specs.Run.{Happened}
use Rattle.ov_run_meaning.specs.Accepting.{DoesEvent, RefusesEvent}
use Rattle.ov_run_meaning.proofs.Writing.Outcomes.{begun, done}
use Rattle.ov_run.proofs.Recorded.{recorded, some_recorded}
use Rattle.ov_run.proofs.line_running.run_event.Given as given
use Rattle.ov_run.proofs.line_running.run_event.Goals as goal
use Rattle.ov_run.proofs.line_running.run_event.Goals.{After-write_entry}

pub last_entry-requires : goal.last_entry-requires
last_entry-requires g c =
    let own = c.in-Ok.ensures.happened in
    subst (λ (u : CoreState). 0 < length u.world.journal) (sym c.core.ensures) (some_recorded _ _ own.0 own.1.journal)

-- the entry that is lent is that of the event
happened : (g : given.Over) (c : After-write_entry g)
    → Happened c.args.hall.now c.args.event c.args.words.now c.last_entry.result.now c.take_event.new.self
happened g c =
    let own = c.in-Ok.ensures.happened in
    let last = subst (λ (u : CoreState). slice_get u.world.journal (length u.world.journal - 1)
    ≡ Some c.last_entry.result.now) c.core.ensures c.last_entry.ensures in
    let same = recorded _ _ own.0 c.last_entry.result.now own.1.journal last in
    subst (λ (e : Entry). Happened c.args.hall.now c.args.event c.args.words.now e c.take_event.new.self) (sym same)
    own.1

pub returns-in-Ok-clause-outcome : goal.returns-in-Ok-clause-outcome
returns-in-Ok-clause-outcome g c =
    done (DoesEvent c.args.hall.now c.args.event c.args.words.now c.take_event.new.self)
    (λ refusal. RefusesEvent c.args.hall.now c.args.event refusal × (c.take_event.new.self ≡ c.args.hall.now)) _ _ _
    c.write_entry.result (c.last_entry.result.now, happened g c, refl) c.write_entry.ensures.outcome
    c.write_entry.ensures.bytes

pub returns-in-Ok-clause-begun : goal.returns-in-Ok-clause-begun
returns-in-Ok-clause-begun g c =
    begun (DoesEvent c.args.hall.now c.args.event c.args.words.now c.take_event.new.self) _ _ _ c.write_entry.result
    (c.last_entry.result.now, happened g c, refl) c.write_entry.ensures.prefix

pub returns-in-Ok-clause-happened : goal.returns-in-Ok-clause-happened
returns-in-Ok-clause-happened g c memory = (c.last_entry.result.now, happened g c)
