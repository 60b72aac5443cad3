-- The rows of the batch were not all taken.
use Rattle.ov_sweep.proofs.Batches.{swept_fault}
use Rattle.ov_sweep.proofs.sweeping.sweep_batch.Goals as goal

pub returns-in_err-take : goal.returns-in_err-take
returns-in_err-take g c =
    swept_fault c.args.measures c.args.batch.now c.in_ok-rows.field-0.rows.items c.deref.result.now
    c.in_ok-rows.field-0.refused
    (g.T.RowTaker.taken c.args.taker.now) (g.T.RowTaker.taken c.take.new.self) c.from_residual-in_err-take.result
    c.in_err-take.field-0.0 c.deref.ensures.value c.in_ok-rows.ensures c.in_err-take.ensures
    c.from_residual-in_err-take.ensures.1
