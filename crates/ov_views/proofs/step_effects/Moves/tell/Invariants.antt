-- what was told and said, and what is still to tell and to say
use Rattle.std.proofs.Common.{◌≡◌, ◌≤◌, ◌+◌, ◌++◌, length, vec_len, vec_capacity}
use Rattle.ov_views.specs.Room.{HasRoom}
use Rattle.ov_views.specs.Sending.{farewells}
use Rattle.ov_views.proofs.step_effects.Moves.tell.Given as goal

abbrev pub invariant-loop-change : goal.invariant-loop-change
invariant-loop-change l = record {
  told : l.self.changes.items ++ l.change-iterator ≡ l.fn.self.changes.items ++ l.fn.changes;
  said : l.self.sends.items ++ farewells l.fn.me l.change-iterator
      ≡ l.fn.self.sends.items ++ farewells l.fn.me l.fn.changes;
  room : HasRoom l.self (length (farewells l.fn.me l.change-iterator)) (length l.change-iterator);
  count : vec_len l.self.sends + length (farewells l.fn.me l.change-iterator) ≡ vec_len l.fn.self.sends + length
      (farewells l.fn.me l.fn.changes);
  capacity : vec_capacity l.fn.self.sends ≤ vec_capacity l.self.sends;
}
