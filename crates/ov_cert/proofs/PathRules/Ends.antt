-- Paths given by their ends.
use Rattle.std.proofs.Common.{◌≡◌, ◌∙◌, ◌↔◌, ℕ, Bool, true, false, not, IsTrue, List, [], ◌∷◌, ◌++◌}
use Rattle.std.proofs.Common.{refl, ap}
use Rattle.ov_cert.specs.Code.Tests.{without_last, last_of, inner}

-- two tests of the same fact have the same result
pub same_test : {P : Type 0} (b t : Bool) → IsTrue b ↔ P → IsTrue t ↔ P → b ≡ t
same_test true true f g = refl
same_test false false f g = refl
same_test true false f g = let h : false ≡ true = g.1 (f.0 refl) in cc
same_test false true f g = let h : false ≡ true = f.1 (g.0 refl) in cc

pub front_last : (xs : List ℕ) (z : ℕ) → without_last (xs ++ z ∷ []) ≡ xs
front_last [] z = refl
front_last (x ∷ []) z = refl
front_last (x ∷ y ∷ xs) z = ap (λ t. x ∷ t) (front_last (y ∷ xs) z)

pub last_of_last : (a : ℕ) (xs : List ℕ) (z : ℕ) → last_of a (xs ++ z ∷ []) ≡ z
last_of_last a [] z = refl
last_of_last a (x ∷ xs) z = last_of_last x xs z

pub inner_of : (a z : ℕ) (inside path : List ℕ) → path ≡ a ∷ (inside ++ z ∷ []) → inner path ≡ inside
inner_of a z inside path e = ap inner e ∙ front_last inside z

pub not_false : (b : Bool) → not b ≡ false → b ≡ true
not_false true h = refl
not_false false h = absurd cc

pub not_true : (b : Bool) → not b ≡ true → b ≡ false
not_true true h = absurd cc
not_true false h = refl
