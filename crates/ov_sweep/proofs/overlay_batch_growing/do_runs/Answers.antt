-- One run more was done.
use Rattle.std.proofs.Common.{List, length, refl, sym, subst}
use Rattle.std.proofs.lemmas.List.Elements.{All-nil}
use Rattle.std.proofs.lemmas.Option.{slice_get_read}
use Rattle.ov_sweep.specs.Code.Shares.{AreDone, Done, IsDone}
use Rattle.ov_sweep.proofs.Sharing.{all_more}
use Rattle.ov_sweep.proofs.overlay_batch_growing.do_runs.Goals as goal

pub loop-init : goal.loop-init
loop-init c =
    let m = c.args.measures in
    let batch = c.args.batch.now in
    subst (λ (l : List Done). AreDone m batch l) (sym c.new-done.ensures.items) (All-nil (IsDone m batch))

pub loop-preserved : goal.loop-preserved
loop-preserved c =
    let batch = c.args.batch.now in
    let place = c.fetch_add-place.result in
    let read = slice_get_read batch (length batch) place c.index-batch-place.result refl c.if-place-batch.false
    c.index-batch-place.is in
    rw c.in_ok-push.ensures.items
    (all_more (IsDone c.args.measures batch) c.loop.done.items (place, c.row_of.result) c.loop.invariant
    (c.index-batch-place.result, read, c.row_of.ensures.row, c.row_of.ensures.refused))
