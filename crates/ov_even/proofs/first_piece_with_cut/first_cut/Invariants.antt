-- The first piece with a cut, among the hauls examined so far.
use Rattle.std.proofs.Common.{take}
use Rattle.std.specs.Option.{option_copied}
use Rattle.ov_even.specs.Code.Cuts.{IsFirstCut, all_settled}
use Rattle.ov_even.proofs.first_piece_with_cut.first_cut.Given as goal

abbrev pub invariant-loop-haul : goal.invariant-loop-haul
invariant-loop-haul l = IsFirstCut (all_settled (take l.haul-index l.hauls)) (option_copied l.first)
