-- The test of order agrees with the relation.
use Rattle.std.proofs.Common.{◌≡◌, ◌↔◌, ℕ, ◌<◌, true, IsTrue, List, [], ◌∷◌, Bool, Some, None, refl, sym, ◌∙◌, arith}
use Rattle.std.proofs.Common.{nat_lt}
use Rattle.std.proofs.lemmas.Bool.{and_parts, and_from, ltb-true, lt-ltb}
use Rattle.std.specs.List.{AllByRecursion}
use Rattle.ov_ids.specs.Members.{Ascends}
use Rattle.ov_ids.specs.Ascending.{ascends_after}

-- ids that are all above y are all above each x below y
all_above : (x y : ℕ) (xs : List ℕ) → x < y → AllByRecursion (λ z. y < z) xs → AllByRecursion (λ z. x < z) xs
all_above x y [] l a = tt
all_above x y (z ∷ xs) l a = (let m = a.0 in omega (arith, l, m), all_above x y xs l a.1)

ascends_from : (x : ℕ) (xs : List ℕ) → ascends_after (Some x) xs ≡ true → Ascends (x ∷ xs)
ascends_from x [] h = (tt, tt)
ascends_from x (y ∷ xs) h =
    let p = and_parts (nat_lt x y) (ascends_after (Some y) xs) h in
    let l : x < y = ltb-true x y p.0 in
    let r = ascends_from y xs p.1 in
    ((l, all_above x y xs l r.0), r)

from_ascends : (x : ℕ) (xs : List ℕ) → Ascends (x ∷ xs) → ascends_after (Some x) xs ≡ true
from_ascends x [] h = refl
from_ascends x (y ∷ xs) h = and_from (nat_lt x y) (ascends_after (Some y) xs) (lt-ltb x y h.0.0) (from_ascends y xs h.1)

pub ascends_tested : (xs : List ℕ) (b : Bool) → b ≡ ascends_after None xs → IsTrue b ↔ Ascends xs
ascends_tested [] b e = ((λ h. tt), (λ h. e))
ascends_tested (x ∷ xs) b e = ((λ h. ascends_from x xs (sym e ∙ h)), (λ h. e ∙ from_ascends x xs h))
