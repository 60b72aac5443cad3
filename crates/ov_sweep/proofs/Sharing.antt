-- The runs that workers did, and what comes at a place of the batch.
use Rattle.std.proofs.Common.{◌≡◌, ◌∙◌, ◌++◌, ℕ, zero, suc, List, [], ◌∷◌, length}
use Rattle.std.proofs.Common.{slice_get, Some, inl, inr, refl, sym, ap, subst}
use Rattle.std.specs.Prelude.{Err, Ok, ◌⊎◌}
use Rattle.std.specs.List.{All}
use Rattle.std.proofs.lemmas.List.Elements.{All-append, All-cons, All-nil, All-get_or}
use Rattle.std.proofs.lemmas.Option.{same_Some, slice_get-get_or, slice_get_within}
use Rattle.ov_grow.specs.declared.fault.GrowFault.{GrowFault}
use Rattle.ov_grow_options.specs.declared.options.GrowOptions.{GrowOptions}
use Rattle.ov_sweep_rows.specs.declared.measures.Measures.{Measures}
use Rattle.ov_sweep_rows.specs.declared.row.Row.{Row}
use Rattle.ov_sweep.specs.Sweeps.{IsOutcomeAt, IsRunRefusal}

-- an item of a list with one more at its end is one of the list, or that one
pub snoc_cases : {X : Type 0} (xs : List X) (x y : X) (i : ℕ) → slice_get (xs ++ x ∷ []) i ≡ Some y
    → (slice_get xs i ≡ Some y) ⊎ ((i ≡ length xs) × (x ≡ y))
snoc_cases [] x y zero e = inr (refl, same_Some x y e)
snoc_cases [] x y (suc i) e = absurd (cc e)
snoc_cases (z ∷ xs) x y zero e = inl e
snoc_cases (z ∷ xs) x y (suc i) e = elim (snoc_cases xs x y i e) [ inl k ↦ inl k | inr p ↦ inr (ap suc p.0, p.1) ]

-- what holds of all items of a list, and of one more, holds of all with it
pub all_more : {X : Type 0} (P : X → Type 0) (xs : List X) (x : X) → All P xs → P x → All P (xs ++ x ∷ [])
all_more P xs x all one = All-append P xs (x ∷ []) all (All-cons P x [] one (All-nil P))

-- what holds of all items of a list holds of the one at a place
pub all_at : {X : Type 0} (P : X → Type 0) (xs : List X) (i : ℕ) (x : X) → All P xs → slice_get xs i ≡ Some x → P x
all_at P xs i x all at =
    let within = slice_get_within xs i x at in
    subst P (same_Some _ x (sym (slice_get-get_or xs i x within) ∙ at)) (All-get_or P xs i x within all)

-- the item that comes next stands behind those before it
pub at_next : {X : Type 0} (seen rest : List X) (x : X) → slice_get (seen ++ x ∷ rest) (length seen) ≡ Some x
at_next [] rest x = refl
at_next (y ∷ seen) rest x = at_next seen rest x

-- one row more of a batch
pub row_more : (m : Measures) (batch : List GrowOptions) (rows : List Row) (row : Row) (place : ℕ) → length rows ≡ place
    → ((i : ℕ) (r : Row) → slice_get rows i ≡ Some r → IsOutcomeAt m batch i (Ok r))
    → IsOutcomeAt m batch place (Ok row)
    → (i : ℕ) (r : Row) → slice_get (rows ++ row ∷ []) i ≡ Some r → IsOutcomeAt m batch i (Ok r)
row_more m batch rows row place count are is i r e = elim (snoc_cases rows row r i e) [
  | inl k ↦ are i r k
  | inr p ↦ subst (λ (n : ℕ). IsOutcomeAt m batch n (Ok r)) (sym count ∙ sym p.0)
      (subst (λ (z : Row). IsOutcomeAt m batch place (Ok z)) p.1 is)
]

-- the options at the place of a refusal are those that were refused
pub refused_here : (m : Measures) (batch : List GrowOptions) (place : ℕ) (o : GrowOptions) (fault : GrowFault)
    → slice_get batch place ≡ Some o → IsOutcomeAt m batch place (Err fault) → IsRunRefusal m o fault
refused_here m batch place o fault at (options, read, is, refused) =
    subst (λ (x : GrowOptions). IsRunRefusal m x fault) (same_Some options o (sym read ∙ at)) refused
