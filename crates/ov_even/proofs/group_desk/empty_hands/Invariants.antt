use Rattle.std.proofs.Common.{◌≡◌, replicate}
use Rattle.ov_even.specs.declared.piece_in_hand.Hand.TheVariants.{Nothing}
use Rattle.ov_even.proofs.group_desk.empty_hands.Given as goal

abbrev pub invariant-loop : goal.invariant-loop
invariant-loop l = l.hands.items ≡ replicate l.counter Nothing
