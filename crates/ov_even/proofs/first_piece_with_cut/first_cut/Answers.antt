-- One more haul is examined.
use Rattle.std.proofs.Common.{◌≡◌, ◌∙◌, List, ◌++◌, ◌+◌, take, sym, ap, subst}
use Rattle.std.specs.Option.{option_copied}
use Rattle.ov_fans.specs.declared.piece_result.Settled.{Settled as settled}
use Rattle.ov_even.specs.declared.worker_haul.Haul.{Haul as haul}
use Rattle.ov_even.specs.Code.Cuts.{IsFirstCut, all_settled}
use Rattle.ov_even.proofs.AnalysisSteps.FirstCut.{all_more}
use Rattle.ov_even.proofs.first_piece_with_cut.first_cut.Goals as goal

pub loop-haul-preserved : goal.loop-haul-preserved
loop-haul-preserved c =
    let hauls = c.args.hauls.now in
    let i = c.loop-haul.haul-index in
    let h = c.haul-item.result in
    let e : all_settled (take (i + 1) hauls) ≡ all_settled (take i hauls) ++ h.pieces.items = all_more hauls i h
    c.loop-haul-test.true ∙ ap (λ (x : haul). all_settled (take i hauls) ++ x.pieces.items) (sym c.haul-item.is) in
    let step = c.earlier_cut-first.ensures (all_settled (take i hauls)) c.loop-haul.invariant in
    rw e (subst (λ (l : List settled). IsFirstCut (all_settled (take i hauls) ++ l)
    (option_copied c.earlier_cut-first.result))
    c.deref.ensures.value step)
