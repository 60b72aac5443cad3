-- The runs so far are those that were swept, and those of the batch.
use Rattle.std.proofs.Common.{◌≡◌, ◌++◌, List}
use Rattle.std.specs.Prelude.{Ok}
use Rattle.ov_grow_options.specs.declared.options.GrowOptions.{GrowOptions}
use Rattle.ov_sweep.specs.Sweeps.{AreSwept}
use Rattle.ov_sweep.proofs.sweeping.sweep.Given as goal

abbrev pub invariant-loop-options : goal.invariant-loop-options
invariant-loop-options g l = record {
  can : (goal.iterator-loop-options g).can_next l.options-iterator;
  ends : (goal.iterator-loop-options g).is_finite l.options-iterator;
  swept : (runs : List GrowOptions) × (l.yielded ≡ runs ++ l.batch.items)
      × AreSwept l.fn.measures runs (g.T.RowTaker.taken l.fn.taker) (g.T.RowTaker.taken l.taker) (Ok tt);
}
