-- The forms of rows, one by one.
use Rattle.std.proofs.Common.{◌<◌, ℕ, Bool, true, false, List, [], ◌∷◌, arith}
use Rattle.std.specs.Prelude.{get_or}
use Rattle.ov_sweep_rows.specs.declared.row_form.RowForm.{RowForm}

-- a form by its groups
abbrev pub form_of : Bool → Bool → Bool → RowForm
form_of further costs shape = record { further = further; costs = costs; shape = shape }

-- without further columns
abbrev pub plain_form : RowForm
plain_form = form_of false false false

-- all forms
abbrev pub all_forms : List RowForm
all_forms =
    form_of false false false ∷ form_of false false true ∷ form_of false true false ∷ form_of false true true
    ∷ form_of true false false ∷ form_of true false true ∷ form_of true true false ∷ form_of true true true ∷ []

-- what is so of each of them is so of any
pub each_form : (IsSo : RowForm → Type 0) → ((k : ℕ) → k < 8 → IsSo (get_or all_forms k plain_form))
    → (form : RowForm) → IsSo form
each_form IsSo each form = by form.further form.costs form.shape where
  by : (a b c : Bool) → IsSo (form_of a b c)
  by false false false = each 0 (omega arith)
  by false false true = each 1 (omega arith)
  by false true false = each 2 (omega arith)
  by false true true = each 3 (omega arith)
  by true false false = each 4 (omega arith)
  by true false true = each 5 (omega arith)
  by true true false = each 6 (omega arith)
  by true true true = each 7 (omega arith)
