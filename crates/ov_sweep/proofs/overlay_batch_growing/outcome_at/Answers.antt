-- What came of the run that was done, or comes of it here.
use Rattle.std.proofs.Common.{ℕ, length, refl, subst}
use Rattle.std.proofs.lemmas.Option.{slice_get_read}
use Rattle.ov_sweep.specs.Sweeps.{IsOutcomeAt}
use Rattle.ov_sweep.specs.Code.Shares.{IsDone}
use Rattle.ov_sweep.proofs.Sharing.{all_at}
use Rattle.ov_sweep.proofs.overlay_batch_growing.outcome_at.Goals as goal

pub returns-then-at-place : goal.returns-then-at-place
returns-then-at-place c =
    let m = c.args.measures in
    let batch = c.args.batch.now in
    let run = c.in-Some.field-0.now in
    let done = c.args.done.now in
    let look = c.in-Some.ensures.lookup in
    let at = slice_get_read done (length done) c.args.place run refl look.3.0 look.1 in
    subst (λ (n : ℕ). IsOutcomeAt m batch n run.1) c.if-at-place.true
    (all_at (IsDone m batch) done c.args.place run c.requires.done at)

pub returns : goal.returns
returns c =
    let batch = c.args.batch.now in
    let read = slice_get_read batch (length batch) c.args.place c.index-batch-place.result refl c.requires.place
    c.index-batch-place.is in
    (c.index-batch-place.result, read, c.row_of.ensures.row, c.row_of.ensures.refused)
