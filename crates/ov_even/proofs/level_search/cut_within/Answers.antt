-- The first cut is within the level, or no cut is.
use Rattle.std.proofs.Common.{subst, arith}
use Rattle.std.specs.Option.{option_copied}
use Rattle.ov_even.specs.Code.Cuts.{IsFirstCut, all_settled}
use Rattle.ov_even.specs.Code.Narrowing.{HasCutWithin}
use Rattle.ov_even.proofs.AnalysisSteps.Narrowing.{no_cut_within, first_behind, first_within, if_none}
use Rattle.ov_even.proofs.level_search.cut_within.Goals as goal

pub returns-in_err-first-clause-none : goal.returns-in_err-first-clause-none
returns-in_err-first-clause-none c =
    let hauls = c.args.hauls.now in
    if_none (¬ HasCutWithin hauls c.args.level) c.from_residual.result (no_cut_within hauls c.args.level
    (subst (λ o. IsFirstCut (all_settled hauls) (option_copied o)) c.in_err-first.was c.first_cut.ensures))

pub returns-then-level-clause-none : goal.returns-then-level-clause-none
returns-then-level-clause-none c =
    let hauls = c.args.hauls.now in
    let e = c.level.ensures in
    let l = c.if-level.true in
    first_behind hauls c.args.level c.in_ok-first.first.now
    (subst (λ o. IsFirstCut (all_settled hauls) (option_copied o)) c.in_ok-first.was c.first_cut.ensures)
    (omega (arith, e, l))

pub returns-clause-some : goal.returns-clause-some
returns-clause-some c =
    let hauls = c.args.hauls.now in
    let e = c.level.ensures in
    let l = c.if-level.false in
    first_within hauls c.args.level c.in_ok-first.first.now c.cut_size.result
    (subst (λ o. IsFirstCut (all_settled hauls) (option_copied o)) c.in_ok-first.was c.first_cut.ensures)
    (omega (arith, e, l)) c.cut_size.ensures.some
