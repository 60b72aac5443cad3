-- The slots have the paths of the pieces examined so far.
use Rattle.std.proofs.Common.{◌≡◌, List, ◌++◌, take, map, length}
use Rattle.std.specs.Option.{option_copied}
use Rattle.ov_fans.specs.declared.piece_result.Settled.{Settled}
use Rattle.ov_even.specs.Code.Levels.{pieces_of_level}
use Rattle.ov_even.specs.Code.Slots.{AreSlotsOf}
use Rattle.ov_even.proofs.level_path_slots.fill.Given as goal

abbrev pub invariant-loop-settled : goal.invariant-loop-settled
invariant-loop-settled l = record {
  size : length l.slots.items ≡ length (pieces_of_level l.members l.level);
  filled : (seen : List Settled) → AreSlotsOf l.members l.level seen (map (λ slot. option_copied slot) l.fn.slots.items)
      → AreSlotsOf l.members l.level (seen ++ take l.settled-index l.pieces)
      (map (λ slot. option_copied slot) l.slots.items);
}
