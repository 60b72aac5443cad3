-- One row more, or the run that was refused.
use Rattle.std.proofs.Common.{◌≡◌, ◌∷◌, [], ℕ, List, Some, arith, length, length-append, refl, rules, slice_get, subst, sym}
use Rattle.std.proofs.lemmas.Option.{slice_get_read}
use Rattle.ov_sweep.specs.Sweeps.{IsOutcomeAt}
use Rattle.std.specs.Prelude.{IfOk}
use Rattle.std.proofs.lemmas.List.Sorted.{All-permutation}
use Rattle.ov_sweep.specs.Code.Shares.{AreDone, Done, IsDone, Outcome, Share}
use Rattle.ov_sweep.proofs.Sharing.{refused_here, row_more}
use Rattle.ov_sweep.proofs.overlay_batch_growing.put_together.Goals as goal

pub outcome_at-requires-clause-done : goal.outcome_at-requires-clause-done
outcome_at-requires-clause-done c =
    let m = c.args.measures in
    let batch = c.args.batch.now in
    let all = subst (λ (r : Share). IfOk r (λ v. AreDone m batch v.items)) c.in_ok-done.was
    (c.gathered.ensures m batch c.requires) in
    subst (λ (l : List Done). AreDone m batch l) (sym c.deref.ensures.value)
    (All-permutation (IsDone m batch) _ _ c.sort_unstable_by_key.ensures.permutation all)

pub loop-place-preserved : goal.loop-place-preserved
loop-place-preserved c =
    let i = c.loop-place.invariant in
    let old = c.loop-place.rows.items in
    let row = c.in-Ok.row in
    let pushed = c.in_ok-push-in-Ok.ensures.items in
    let longer = length-append old (row ∷ []) in
    record {
      count = rw pushed (omega (arith, longer, i.count));
      each = rw pushed (row_more c.args.measures c.args.batch.now old row c.loop-place.place i.count i.each (search
          rules));
    }

pub returns-in-Err : goal.returns-in-Err
returns-in-Err c =
    let batch = c.args.batch.now in
    let i = c.loop-place.invariant in
    let read = slice_get_read batch (length batch) c.loop-place.place c.index-batch-place.result refl (search rules)
    c.index-batch-place.is in
    record {
      each = i.each;
      ends = (
        subst (λ (n : ℕ). slice_get batch n ≡ Some c.index-batch-place.result) (sym i.count) read,
        refused_here c.args.measures batch c.loop-place.place c.index-batch-place.result c.in-Err.fault read
            (subst (λ (x : Outcome). IsOutcomeAt c.args.measures batch c.loop-place.place x) c.in-Err.is
            c.outcome_at.ensures),
      );
    }
