-- A word that is shorter than each name of a line is none of them.
use Rattle.std.proofs.Common.{◌≡◌, ◌∙◌, ◌<◌, ◌&&◌, ℕ, Bool, true, false, nat_lt, List, [], ◌∷◌, length, Option, None}
use Rattle.std.proofs.Common.{if◌then◌else◌, ap, arith, refl}
use Rattle.std.specs.List.{list_all}
use Rattle.std.proofs.lemmas.Bool.Decides.{nat_tests}
use Rattle.std.proofs.lemmas.Slice.Eq.{bytes_eq-Decides}
use Rattle.ov_lines.specs.Lines.{row, same}
use Rattle.ov_scenario.specs.declared.statement.Statement.{Statement}

longer : (n : ℕ) → nat_lt 2 n ≡ true → 2 < n
longer n is = grind (arith, nat_tests)

unlike : (word name : List ℕ) → length word < 3 → 2 < length name → same word name ≡ false
unlike word name short long = by (same word name) refl where
  by : (t : Bool) → same word name ≡ t → t ≡ false
  by true is = let e = ap length ((bytes_eq-Decides word name).0 is) in absurd (omega (arith, short, long, e))
  by false is = refl

-- no row has a word of fewer than three bytes as its name, if all names have three or more
pub unnamed : (word : List ℕ) (rows : List (List ℕ × Option Statement)) → length word < 3
    → list_all (λ r. nat_lt 2 (length r.0)) rows ≡ true
    → row word rows None ≡ None
unnamed word [] short long = refl
unnamed word (first ∷ rows) short long =
    by (nat_lt 2 (length first.0)) refl long (λ others. unnamed word rows short others) where
      by : (t : Bool) → nat_lt 2 (length first.0) ≡ t → (t && list_all (λ r. nat_lt 2 (length r.0)) rows) ≡ true
          → (list_all (λ r. nat_lt 2 (length r.0)) rows ≡ true → row word rows None ≡ None)
          → row word (first ∷ rows) None ≡ None
      by true is rest none =
          ap (λ b. if b then first.1 else row word rows None) (unlike word first.0 short (longer (length first.0) is))
          ∙ none rest
      by false is rest none = absurd cc
