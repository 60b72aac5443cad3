use Rattle.std.proofs.Common.{◌∙◌, ap, drop, subst}
use Rattle.ov_net.specs.Journal.{changes_of}
use Rattle.ov_net.specs.declared.journal_entry_and_changes.Entry.{Entry}
use Rattle.ov_grow.specs.Code.Standing.{TakeNoCrashed}
use Rattle.ov_grow.proofs.LookingOn.{entry_left, no_entry_left, tail_whole}
use Rattle.ov_grow.proofs.growth_in_progress.Growing.took_crashed.Goals as goal

pub loop-entry-init : goal.loop-entry-init
loop-entry-init c = λ none. none

pub loop-entry-preserved : goal.loop-entry-preserved
loop-entry-preserved c = λ more.
    let net = c.args.self.now.recording.core.world.net in
    let here = subst (TakeNoCrashed net) c.as_slice.ensures (c.take_crashed.ensures c.if-take_crashed.false) in
    c.loop-entry.invariant (
    entry_left net _ c.loop-entry.entry-index c.entry-item.result c.loop-entry-test.true
    (subst (λ (e : Entry). TakeNoCrashed net e.changes) c.entry-item.is here) more
    )

pub returns : goal.returns
returns c = λ never.
    let net = c.args.self.now.recording.core.world.net in
    subst (λ es. TakeNoCrashed net (changes_of es)) (
    tail_whole c.journal.result.now c.args.before
    ∙ ap (drop c.args.before) (c.journal.ensures.value ∙ ap (λ w. w.journal) c.world.ensures)
    ) (c.loop-entry.invariant (no_entry_left net _ c.loop-entry.entry-index c.loop-entry-test.false))
