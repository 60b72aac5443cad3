-- One more piece is examined.
use Rattle.std.proofs.Common.{◌≡◌, List, [], ◌∷◌, ◌++◌, ◌+◌, take, sym, subst}
use Rattle.std.proofs.Common.{take_all}
use Rattle.std.specs.Option.{option_copied}
use Rattle.std.proofs.lemmas.Bool.{both_ways}
use Rattle.ov_fans.specs.declared.piece_result.Settled.{Settled as settled}
use Rattle.ov_even.specs.Code.Cuts.{IsFirstCut}
use Rattle.ov_even.proofs.AnalysisSteps.FirstCut.{one_more, cut_earlier, cut_stays}
use Rattle.ov_even.proofs.first_piece_with_cut.earlier_cut.Goals as goal
use Rattle.ov_even.proofs.first_piece_with_cut.earlier_cut.Goals.{then-is_earlier_cut, else-is_earlier_cut}

pub loop-settled-preserved : goal.loop-settled-preserved
loop-settled-preserved c = λ seen known.
    let xs = c.args.pieces.now in
    let i = c.loop-settled.settled-index in
    let t = c.settled-item.result in
    let before = c.loop-settled.invariant seen known in
    let e : seen ++ take (i + 1) xs ≡ (seen ++ take i xs) ++ t ∷ [] = one_more seen xs i t c.loop-settled-test.true
    c.settled-item.is in
    subst (λ (l : List settled). IsFirstCut l (option_copied c.if-is_earlier_cut.first)) (sym e)
    (elim c.if-is_earlier_cut.branch [
      | then-is_earlier_cut w ↦ rw w.first-is (cut_earlier (seen ++ take i xs) (option_copied c.loop-settled.first) t
          before (c.is_earlier_cut.ensures.0 w.if-is_earlier_cut.true))
      | else-is_earlier_cut w ↦ rw w.first-is (cut_stays (seen ++ take i xs) (option_copied c.loop-settled.first) t
          before (λ e. both_ways c.is_earlier_cut.result w.if-is_earlier_cut.false (c.is_earlier_cut.ensures.1 e)))
    ])

pub returns : goal.returns
returns c = λ seen known.
    subst (λ (l : List settled). IsFirstCut (seen ++ l) (option_copied c.loop-settled.first))
    (take_all c.loop-settled.settled-index c.args.pieces.now c.loop-settled-test.false)
    (c.loop-settled.invariant seen known)
