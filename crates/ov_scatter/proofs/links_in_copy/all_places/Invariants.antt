-- the places so far
use Rattle.std.proofs.Common.{◌<◌, ℕ}
use Rattle.ov_graph.specs.Row.{HasBit}
use Rattle.ov_scatter.proofs.links_in_copy.all_places.Given as goal

abbrev pub invariant-loop-place : goal.invariant-loop-place
invariant-loop-place l = (q : ℕ) → q < l.place → HasBit l.all q
