-- When a bound lies outside of an interval, by a division; and numbers of which none is so.
use Rattle.std.proofs.Common.{◌<◌, ◌≤◌, ◌+◌, ◌*◌, ◌/◌, ◌↔◌, ℕ, IsTrue, nat_lt, inl, inr, subst, arith}
use Rattle.std.proofs.Common.{div-lt_iff_lt-mul, eq-or-lt_of_le}
use Rattle.std.proofs.lemmas.Bool.{lt-ltb, ltb-true}

-- a test of a quotient says that the spread is below a multiple
pub by_quotient : (spread width number : ℕ) → 0 < width
    → IsTrue (nat_lt (spread / width) number) ↔ (spread < number * width)
by_quotient spread width number some = (
  λ less. (div-lt_iff_lt-mul some).0 (ltb-true (spread / width) number less),
  λ below. lt-ltb (spread / width) number ((div-lt_iff_lt-mul some).1 below),
)

-- if none of the numbers from one on up to another is so, and that one is not either, none up to the next one is
pub none_more : (IsSo : ℕ → Type 0) (low next : ℕ) → ((n : ℕ) → low ≤ n → n < next → IsSo n → ⊥) → (IsSo next → ⊥)
    → (n : ℕ) → low ≤ n → n < next + 1 → IsSo n → ⊥
none_more IsSo low next none last n from less is =
    let most : n ≤ next = omega (arith, less) in
    elim (eq-or-lt_of_le most) [ inl e ↦ last (subst IsSo e is) | inr l ↦ none n from l is ]
