-- the bits of the words so far
use Rattle.std.proofs.Common.{◌≡◌, ◌*◌, ◌≤◌}
use Rattle.ov_shape.proofs.ShapeOfGraph.Counts.{bits}
use Rattle.ov_shape.proofs.place_sets.count.Given as goal

abbrev pub invariant-loop-word : goal.invariant-loop-word
invariant-loop-word g l = record {
  counted : l.bits ≡ bits l.set 0 (64 * l.word);
  few : l.bits ≤ 64 * l.word;
}
