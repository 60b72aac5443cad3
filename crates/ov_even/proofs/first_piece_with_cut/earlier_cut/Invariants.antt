-- The first piece with a cut, among the pieces known before and those examined so far.
use Rattle.std.proofs.Common.{List, ◌++◌, take}
use Rattle.std.specs.Option.{option_copied}
use Rattle.ov_fans.specs.declared.piece_result.Settled.{Settled}
use Rattle.ov_even.specs.Code.Cuts.{IsFirstCut}
use Rattle.ov_even.proofs.first_piece_with_cut.earlier_cut.Given as goal

abbrev pub invariant-loop-settled : goal.invariant-loop-settled
invariant-loop-settled l = (seen : List Settled) → IsFirstCut seen (option_copied l.known)
    → IsFirstCut (seen ++ take l.settled-index l.pieces) (option_copied l.first)
