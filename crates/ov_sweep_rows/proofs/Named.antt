-- Records are compared field by field.
use Rattle.std.proofs.Common.{◌≡◌, ◌<◌, ◌+◌, ℕ, zero, suc, List, [], ◌∷◌, length, map, refl, ap, ap₂}
use Rattle.std.proofs.Common.{◌++◌, ◌∙◌, append_assoc}
use Rattle.std.proofs.Common.{arith, inl, inr, ◌⊎◌}
use Rattle.csv.specs.Records.{field_at}
use Rattle.ov_sweep_rows.specs.declared.columns.Column.{Column}
use Rattle.ov_sweep_rows.specs.declared.row_fault.FieldForm.{FieldForm}
use Rattle.ov_sweep_rows.specs.Columns.{column_name}
use Rattle.ov_sweep_rows.specs.Fields.{text_at}

-- the names of columns
abbrev pub names_of : List Column → List (List ℕ)
names_of columns = map (λ column. column_name column.name) columns

-- what columns take
abbrev pub forms_of : List Column → List FieldForm
forms_of columns = map (λ column. column.takes) columns

pub below_or_at : (i n : ℕ) → i < n + 1 → (i < n) ⊎ (i ≡ n)
below_or_at zero zero h = inr refl
below_or_at zero (suc n) h = inl (omega arith)
below_or_at (suc i) zero h = absurd (omega arith)
below_or_at (suc i) (suc n) h = elim (below_or_at i n (omega arith)) [
  | inl below ↦ inl (omega arith)
  | inr same ↦ inr (ap suc same)
]

-- records of as many fields, each the same, are one
pub same_fields : (xs ys : List (List ℕ)) → length xs ≡ length ys
    → ((i : ℕ) → i < length xs → text_at xs i ≡ text_at ys i) → xs ≡ ys
unfolding field_at
same_fields [] [] long each = refl
same_fields [] (y ∷ ys) long each = absurd (omega arith)
same_fields (x ∷ xs) [] long each = absurd (omega arith)
same_fields (x ∷ xs) (y ∷ ys) long each =
    ap₂ (λ (a : List ℕ) (b : List (List ℕ)). a ∷ b) (each 0 (omega arith))
    (same_fields xs ys (omega arith) (λ i less. each (suc i) (omega arith)))

-- five lists are put behind another one
pub joined_five : {A : Type 0} (old a b c d e v w x y z : List A) → v ≡ old ++ a → w ≡ v ++ b → x ≡ w ++ c
    → y ≡ x ++ d → z ≡ y ++ e → z ≡ old ++ (a ++ (b ++ (c ++ (d ++ e))))
joined_five old a b c d e v w x y z p q r s t =
    t
    ∙ ap (λ l. l ++ e) (s ∙ ap (λ l. l ++ d) (r ∙ ap (λ l. l ++ c) (q ∙ ap (λ l. l ++ b) p)))
    ∙ append_assoc (((old ++ a) ++ b) ++ c) d e
    ∙ append_assoc ((old ++ a) ++ b) c (d ++ e)
    ∙ append_assoc (old ++ a) b (c ++ (d ++ e))
    ∙ append_assoc old a (b ++ (c ++ (d ++ e)))
