-- A snapshot, or another event of the world.
use Rattle.std.proofs.Common.{◌≡◌, OnOk, subst, sym}
use Rattle.ov_net.specs.declared.event.Event.{Event}
use Rattle.ov_net.specs.declared.event.Event.TheVariants as event
use Rattle.ov_net.specs.declared.journal_entry_and_changes.Entry.{Entry}
use Rattle.ov_snap.specs.CoreState.{CoreState}
use Rattle.ov_snap.specs.Run.{Happened}
use Rattle.ov_snap.proofs.Keeping.{other_happened, other_kept}
use Rattle.ov_snap.proofs.snapshot_core.Core.take_event.Goals as goal

pub returns-then-is_snapshot-clause-happened : goal.returns-then-is_snapshot-clause-happened
returns-then-is_snapshot-clause-happened c =
    let own = c.in_ok-take_snapshot in
    let is : c.args.event ≡ event.Snapshot = c.is_snapshot.ensures.0 c.if-is_snapshot.true in (
      own.field-0,
      subst (λ (w : Event). Happened c.args.self.now w c.args.words.now own.field-0 c.take_snapshot.new.self) (sym is)
          own.ensures.happened,
    )

pub invariant_of-self : goal.invariant_of-self
invariant_of-self c =
    let i = c.self.inside in
    let s = c.take_event.ensures in
    let happened = other_happened i.world c.take_event.new.self i.snapshots.items i.desks.items i.reports c.args.event
    c.args.words.now c.take_event.result c.is_snapshot.result c.if-is_snapshot.false c.is_snapshot.ensures
    s.judged s.step
    in
    other_kept i.world c.take_event.new.self i.snapshots.items i.desks.items i.reports c.args.event c.args.words.now
    c.take_event.result happened s.err c.self.invariant

pub returns-clause-happened : goal.returns-clause-happened
returns-clause-happened c =
    let i = c.self.inside in
    let s = c.take_event.ensures in
    let after : CoreState = record {
      world = c.take_event.new.self;
      snapshots = i.snapshots.items;
      desks = i.desks.items;
      reports = i.reports;
    } in
    subst (λ (b : CoreState). OnOk c.take_event.result ((e : Entry) × Happened b c.args.event c.args.words.now e after))
    c.self.view_is
    (other_happened i.world c.take_event.new.self i.snapshots.items i.desks.items i.reports c.args.event
    c.args.words.now c.take_event.result c.is_snapshot.result c.if-is_snapshot.false c.is_snapshot.ensures
    s.judged s.step)
