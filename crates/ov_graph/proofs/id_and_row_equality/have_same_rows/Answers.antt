-- The rows up to a place agree, and the rows at that place.
use Rattle.std.proofs.Common.{◌∙◌, ◌↔◌, ℕ, true≢false, inl, inr, sym, subst, arith}
use Rattle.std.proofs.lemmas.Bool.{cases_eq}
use Rattle.ov_graph.specs.Row.{HasBit}
use Rattle.ov_graph.specs.Code.Kept.{row_at}
use Rattle.ov_graph.proofs.id_and_row_equality.have_same_rows.Goals as goal

pub returns-then-not-agree : goal.returns-then-not-agree
returns-then-not-agree c =
    let place = c.loop-place.place in (
      (λ t. absurd (true≢false (sym t))),
      (λ same. absurd
          (true≢false (sym (c.agree.ensures.1 (λ q l. same place q c.loop-place-test.true l)) ∙ c.if-not-agree.true))),
    )

pub loop-place-preserved : goal.loop-place-preserved
loop-place-preserved c p q l m = elim (cases_eq p c.loop-place.place) [
  | inl e ↦ subst (λ (i : ℕ). HasBit (row_at c.args.left.now i) q ↔ HasBit (row_at c.args.right.now i) q) (sym e)
      (c.agree.ensures.0 c.if-not-agree.false q m)
  | inr n ↦ c.loop-place.invariant p q (omega (arith, l, n)) m
]
