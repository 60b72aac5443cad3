-- The degrees of the nodes at places below `place`.
use Rattle.std.proofs.Common.{◌≡◌, ℕ, ◌<◌, ◌≤◌, length, slice_index, vec_capacity}
use Rattle.ov_graph.specs.Paths.{node_at}
use Rattle.ov_shape.specs.Degrees.{IsDegree}
use Rattle.ov_shape.proofs.degree_quartiles.degrees_of.Given as goal

abbrev pub invariant-places : goal.invariant-places
invariant-places g l = record {
  count : length l.degrees.items ≡ l.place;
  room : l.nodes ≤ vec_capacity l.degrees;
  each : (p : ℕ) → p < l.place → IsDegree l.graph (node_at l.graph p) (slice_index l.degrees.items p);
}
