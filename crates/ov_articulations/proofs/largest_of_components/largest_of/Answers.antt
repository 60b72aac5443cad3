use Rattle.std.proofs.Common.{Bor, ◌∙◌, ◌+◌, List, ℕ, ap, arith, length, subst, sym}
use Rattle.std.specs.Prelude.{unwrap_or}
use Rattle.ov_articulations.proofs.Largest.{IsBest, best_all, best_begun, best_kept, best_taken}
use Rattle.ov_articulations.proofs.largest_of_components.largest_of.Goals as goal
use Rattle.ov_articulations.proofs.largest_of_components.largest_of.Goals.{then-component-largest, else-component-largest}

pub loop-place-init : goal.loop-place-init
loop-place-init c = best_begun c.args.components.now

pub loop-place-preserved : goal.loop-place-preserved
loop-place-preserved c =
    let lists = c.args.components.now in
    let n = c.loop-place.place in
    elim c.if-component-largest.branch [
      | then-component-largest w ↦
          subst (λ (b : Bor (List ℕ)). IsBest lists (n + 1) b.now) (sym w.largest-is)
          (best_taken lists n c.loop-place.largest.now c.component_at-component.result.now c.loop-place.invariant
          c.component_at-component.ensures w.if-component-largest.true)
      | else-component-largest w ↦
          subst (λ (b : Bor (List ℕ)). IsBest lists (n + 1) b.now) (sym w.largest-is)
          (best_kept lists n c.loop-place.largest.now c.loop-place.invariant
          (λ q at.
          let same = ap (λ o. length (unwrap_or o q)) (sym at ∙ c.component_at-component.ensures) in
          let below = w.if-component-largest.false in
          omega (arith, same, below)))
    ]

pub returns : goal.returns
returns c =
    let past = c.loop-place-test.false in
    let end = c.len-place-end.ensures in
    best_all c.args.components.now c.loop-place.place c.loop-place.largest.now c.loop-place.invariant
    (omega (arith, past, end))
