-- The runs of the shares so far were done.
use Rattle.std.proofs.Common.{◌≡◌, List, ◌++◌}
use Rattle.ov_grow_options.specs.declared.options.GrowOptions.{GrowOptions}
use Rattle.ov_sweep_rows.specs.declared.measures.Measures.{Measures}
use Rattle.ov_sweep.specs.Code.Shares.{AreDone, AreShares}
use Rattle.ov_sweep.proofs.overlay_batch_growing.gathered.Given as goal

abbrev pub invariant-loop-share : goal.invariant-loop-share
invariant-loop-share l = record {
  rest : l.yielded ++ l.share-iterator.rest.items ≡ l.fn.shares.items;
  all : (m : Measures) (batch : List GrowOptions) → AreShares m batch l.fn.shares.items → AreDone m batch l.all.items;
}
