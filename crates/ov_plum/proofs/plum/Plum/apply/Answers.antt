use Rattle.std.proofs.Common.{sym, subst}
use Rattle.ov_plum.specs.Code.Waiting.{WaitingState}
use Rattle.ov_plum.specs.Notes.{AreNotes}
use Rattle.ov_plum.proofs.Branching.{made_eager, made_lazy}
use Rattle.ov_plum.proofs.InOrder.{noted_keeps, asked_keeps, cleared_keeps}
use Rattle.ov_plum.proofs.plum.Plum.apply.Goals as goal

-- notes and timers as they are kept
abbrev Kept : WaitingState → Type 0
Kept w = AreNotes w.notes w.running

pub invariant_of-self-in-Holds : goal.invariant_of-self-in-Holds
invariant_of-self-in-Holds c = record {
  branches = rw c.make_eager.ensures (made_eager _ _ c.self.invariant.branches);
  notes = subst Kept (sym c.clear.ensures) (cleared_keeps _ _ _ c.self.invariant.notes);
  made = c.self.invariant.made;
}

pub invariant_of-self-in-Eager : goal.invariant_of-self-in-Eager
invariant_of-self-in-Eager c = record {
  branches = rw c.make_eager-in-Eager.ensures (made_eager _ _ c.self.invariant.branches);
  notes = c.self.invariant.notes;
  made = c.self.invariant.made;
}

pub invariant_of-self-in-Lazy : goal.invariant_of-self-in-Lazy
invariant_of-self-in-Lazy c = record {
  branches = rw c.make_lazy.ensures (made_lazy _ _ c.self.invariant.branches);
  notes = c.self.invariant.notes;
  made = c.self.invariant.made;
}

pub invariant_of-self-in-Continue-branch-3 : goal.invariant_of-self-in-Continue-branch-3
invariant_of-self-in-Continue-branch-3 c = record {
  branches = c.self.invariant.branches;
  notes = subst Kept (sym c.in_ok-note-in-Awaits.ensures.ok) (noted_keeps _ _ _ _ c.self.invariant.notes);
  made = c.self.invariant.made;
}

pub invariant_of-self-in-Asks : goal.invariant_of-self-in-Asks
invariant_of-self-in-Asks c = record {
  branches = rw c.make_eager-in-Asks.ensures (made_eager _ _ c.self.invariant.branches);
  notes = subst Kept (sym c.in_ok-take_oldest-in-Asks.ensures.ok) (asked_keeps _ _ _ c.self.invariant.notes);
  made = c.self.invariant.made;
}

pub invariant_of-self-in-Clears : goal.invariant_of-self-in-Clears
invariant_of-self-in-Clears c = record {
  branches = c.self.invariant.branches;
  notes = subst Kept (sym c.clear-in-Clears.ensures) (cleared_keeps _ _ _ c.self.invariant.notes);
  made = c.self.invariant.made;
}
