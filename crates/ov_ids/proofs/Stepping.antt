-- Judgements by steps (`FaultOrder` in specs/).
use Rattle.std.proofs.Common.{◌≡◌, ◌↔◌, inl, inr, Bool, true, false, cond, IsTrue, Option, Some, None, refl}
use Rattle.std.proofs.lemmas.Bool.{both_ways}
use Rattle.ov_ids.specs.FaultOrder.{HoldsThen}

-- a step whose condition is decided by a test
pub step_by : {E : Type 0} (P : Type 0) (b : Bool) (e : E) (After : Option E → Type 0) (x : Option E)
    → (IsTrue b ↔ P) → After x → HoldsThen P e After (cond b x (Some e))
step_by P true e After x t a = inl (t.0 refl, a)
step_by P false e After x t a = inr ((λ p. both_ways false refl (t.1 p)), refl)

-- there is no fault, so the step passed
pub step_none : {E : Type 0} (P : Type 0) (e : E) (After : Option E → Type 0) → HoldsThen P e After None
    → P × After None
step_none P e After s = elim s [ inl p ↦ p | inr n ↦ let h : None ≡ Some e = n.1 in absurd (cc) ]

-- the condition holds, so the rest of the chain decides
pub step_passes : {E : Type 0} (P : Type 0) (e : E) (After : Option E → Type 0) (x : Option E)
    → P → HoldsThen P e After x → After x
step_passes P e After x p s = elim s [ inl q ↦ q.1 | inr n ↦ absurd (n.0 p) ]

-- the same as `step_by`, by a test of the failure
pub step_unless : {E : Type 0} (P : Type 0) (b : Bool) (e : E) (After : Option E → Type 0) (x : Option E)
    → (IsTrue b → ¬ P) → (b ≡ false → P) → After x → HoldsThen P e After (cond b (Some e) x)
step_unless P true e After x t f a = inr (t refl, refl)
step_unless P false e After x t f a = inl (f refl, a)
