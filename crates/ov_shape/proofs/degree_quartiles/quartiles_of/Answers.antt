-- The degrees in order, and those at three places.
use Rattle.std.proofs.Common.{◌≡◌, ◌∙◌, ℕ, ◌-◌, ◌*◌, ◌+◌, ◌/◌, ◌<◌, List, length, get_or, sym, ap, subst, arith}
use Rattle.std.proofs.lemmas.Grind.{get_or_default_zero}
use Rattle.ov_shape.specs.Degrees.{IsQuartile, quarters}
use Rattle.ov_shape.proofs.ShapeOfGraph.Clusters.{quartile_of}
use Rattle.ov_shape.proofs.degree_quartiles.quartiles_of.Goals as goal

pub returns : goal.returns
returns g c =
    let h = c.args.graph.now in
    let n = length c.nodes-nodes.result.now in
    let e : n ≡ length h.nodes = ap (λ (xs : List ℕ). length xs) c.nodes-nodes.ensures.nodes in
    let some = c.requires.node in
    let ordered : List ℕ = c.sort_unstable.new.self.items in
    let permuted = c.sort_unstable.ensures.len in
    let count = c.in_ok-degrees.ensures.count in
    let quartile : (k place d : ℕ) → place < n → d ≡ get_or ordered place d
    → place ≡ quarters k (length h.nodes) - 1 → IsQuartile h k d =
    λ k place d below is at.
    subst (λ (m : ℕ). IsQuartile h k m)
    (sym (is ∙ get_or_default_zero ordered place d (omega (arith, below, permuted, count, e))))
    (quartile_of h c.in_ok-degrees.degrees.items ordered k place c.in_ok-degrees.ensures
    c.sort_unstable.ensures.permutation c.sort_unstable.ensures.sorted at) in
    record {
      first = quartile 1 ((n + 3) / 4 - 1) c.index.result.now (omega (arith, e, some)) c.index.ensures
          (omega (arith, e));
      median = quartile 2 ((2 * n + 3) / 4 - 1) c.index-2.result.now (omega (arith, e, some)) c.index-2.ensures
          (omega (arith, e));
      third = quartile 3 ((3 * n + 3) / 4 - 1) c.index-3.result.now (omega (arith, e, some)) c.index-3.ensures
          (omega (arith, e));
    }
