use Rattle.std.proofs.Common.{sym, subst}
use Rattle.ov_plum.specs.Notes.{AreNotes}
use Rattle.ov_plum.specs.Code.Waiting.{WaitingState}
use Rattle.ov_plum.proofs.Branching.{down_keeps}
use Rattle.ov_plum.proofs.InOrder.{gone_keeps}
use Rattle.ov_plum.proofs.plum.Plum.down.Goals as goal

pub invariant_of-self : goal.invariant_of-self
invariant_of-self c = record {
  branches = rw c.down.ensures (down_keeps _ _ c.self.invariant.branches);
  notes = subst (λ (w : WaitingState). AreNotes w.notes w.running) (sym c.forget.ensures)
      (gone_keeps _ _ _ c.self.invariant.notes);
  made = c.self.invariant.made;
}
