-- what was told, and what is still to tell
use Rattle.std.proofs.Common.{◌≡◌, ◌++◌, length}
use Rattle.ov_views.specs.Room.{HasRoom}
use Rattle.ov_views.proofs.step_effects.Moves.tell_changes.Given as goal

abbrev pub invariant-loop-told : goal.invariant-loop-told
invariant-loop-told l = record {
  told : l.self.changes.items ++ l.told-iterator ≡ l.fn.self.changes.items ++ l.fn.changes;
  room : HasRoom l.self 0 (length l.told-iterator);
  sends : l.self.sends ≡ l.fn.self.sends;
}
