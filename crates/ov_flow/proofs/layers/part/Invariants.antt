use Rattle.std.proofs.Common.{◌≡◌, ◌<◌}
use Rattle.ov_flow.proofs.layers.part.Given as goal

abbrev pub invariant-loop-k : goal.invariant-loop-k
invariant-loop-k g l = record {
  later : 0 < l.k;
  visited : l.layers.visited ≡ l.fn.layers.visited;
}
