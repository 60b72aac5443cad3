-- The slots have the paths of the hauls examined so far.
use Rattle.std.proofs.Common.{take, map}
use Rattle.std.specs.Option.{option_copied}
use Rattle.ov_even.specs.Code.Cuts.{all_settled}
use Rattle.ov_even.specs.Code.Slots.{AreSlotsOf}
use Rattle.ov_even.proofs.level_path_slots.slots_of.Given as goal

abbrev pub invariant-loop-haul : goal.invariant-loop-haul
invariant-loop-haul l = AreSlotsOf l.members l.level (all_settled (take l.haul-index l.hauls))
    (map (λ slot. option_copied slot) l.slots.items)
