-- The coefficient of one node more, and of all.
use Rattle.std.proofs.Common.{◌≡◌, ℕ, List, ◌*◌, ◌/◌, drop, length, ap, arith}
use Rattle.std.proofs.lemmas.List.{drop_all}
use Rattle.ov_shape.specs.Clustering.{IsCoefficient}
use Rattle.ov_shape.proofs.ShapeOfGraph.Sums.{goes_done}
use Rattle.ov_shape.proofs.ShapeOfGraph.Clusters.{nodes_more}
use Rattle.ov_shape.proofs.clustering_coefficient.clustering.Goals as goal

pub places-preserved : goal.places-preserved
places-preserved g c =
    let h = c.args.graph.now in
    let e : length c.nodes-nodes.result.now ≡ length h.nodes =
    ap (λ (xs : List ℕ). length xs) c.nodes-nodes.ensures.nodes in
    let l = c.places-test.true in
    let a = c.places.invariant.few in
    let b = c.coefficient-total.ensures.few in
    record {
      sum = nodes_more (IsCoefficient h) h.nodes c.places.place c.coefficient-total.result c.places.total
          (omega (arith, l, e)) c.coefficient-total.ensures.value c.places.invariant.sum;
      few = omega (arith, a, b);
    }

pub returns : goal.returns
returns g c =
    let h = c.args.graph.now in
    let e : length c.nodes-nodes.result.now ≡ length h.nodes =
    ap (λ (xs : List ℕ). length xs) c.nodes-nodes.ensures.nodes in
    let end = c.places-test.false in (
      c.places.total,
      goes_done (IsCoefficient h) h.nodes (drop c.places.place h.nodes) c.places.total
          (drop_all c.places.place h.nodes (omega (arith, end, e))) c.places.invariant.sum,
      ap (λ (k : ℕ). c.places.total / (100 * k)) e,
    )
