-- The first component, one more, and all.
use Rattle.std.proofs.Common.{◌≡◌, List, ℕ, ◌+◌, length, sym, ap, subst, arith}
use Rattle.ov_graph.specs.Row.{HasBit}
use Rattle.ov_shape.proofs.ShapeOfGraph.Largest.{IsBest, new_of, best_begun, best_seen, best_larger, best_stays}
use Rattle.ov_shape.proofs.ShapeOfGraph.Largest.{best_of_all}
use Rattle.ov_shape.proofs.component_search.largest_component.Goals as goal
use Rattle.ov_shape.proofs.component_search.largest_component.Goals.{then-found-best, else-found-best}

pub places-init : goal.places-init
places-init g c = record {
  best = best_begun c.args.graph.now c.search-best.result.places c.search-best.result.count
      c.nodes-place-end.ensures.graph c.requires.node c.search-best.ensures.places c.search-best.ensures.count;
}

pub places-preserved-then-has : goal.places-preserved-then-has
places-preserved-then-has g c = record {
  best = best_seen c.args.graph.now c.places.place c.places.seen c.places.best.0 c.places.best.1.0
      (c.has.ensures.0 c.if-has.true) c.places.invariant.best;
}

pub places-preserved : goal.places-preserved
places-preserved g c =
    let h = c.args.graph.now in
    let place = c.places.place in
    let seen = c.places.seen in
    let all = c.either-seen.result in
    let f = c.search-found.result in
    let old = c.places.best in
    let best = c.places.invariant.best in
    let e : length c.nodes-place-end.result.now ≡ length h.nodes =
    ap (λ (xs : List ℕ). length xs) c.nodes-place-end.ensures.nodes in
    let l = c.places-test.true in
    let no = c.if-has.false in
    let unseen : ¬ HasBit seen place = λ h. let yes_bit = c.has.ensures.1 h in cc in
    let new = new_of h place seen all f.places old.0 f.count old.1.0 c.words_in_use-words.result
    c.nodes-place-end.ensures.graph c.words_in_use-words.ensures.words.enough (omega (arith, l, e)) unseen best
    c.search-found.ensures.places c.search-found.ensures.count c.either-seen.ensures in
    elim c.if-found-best.branch [
      | then-found-best w ↦ record {
        best = subst (λ b. IsBest h (place + 1) all b.0 b.1.0) (sym w.best-is)
            (best_larger h place seen all f.places old.0 f.count old.1.0 new best w.if-found-best.true);
      }
      | else-found-best w ↦ record {
        best = subst (λ b. IsBest h (place + 1) all b.0 b.1.0) (sym w.best-is)
            (best_stays h place seen all f.places old.0 f.count old.1.0 new best w.if-found-best.false);
      }
    ]

pub returns : goal.returns
returns g c =
    let h = c.args.graph.now in
    let e : length c.nodes-place-end.result.now ≡ length h.nodes =
    ap (λ (xs : List ℕ). length xs) c.nodes-place-end.ensures.nodes in
    let end = c.places-test.false in
    best_of_all h c.places.place c.places.seen c.places.best.0 c.places.best.1.0 c.nodes-place-end.ensures.graph
    (omega (arith, end, e)) c.places.invariant.best
