-- All runs so far were done.
use Rattle.ov_sweep.specs.Code.Shares.{AreDone}
use Rattle.ov_sweep.proofs.overlay_batch_growing.do_runs.Given as goal

abbrev pub invariant-loop : goal.invariant-loop
invariant-loop l = AreDone l.fn.measures l.fn.batch l.done.items
