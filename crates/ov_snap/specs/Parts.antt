-- Facts of each item of a list, and numbers of items added up.
use Rattle.std.specs.Prelude.{ℕ, ◌+◌, ◌==◌, cond, List, [], ◌∷◌}

-- the numbers of all items, added up
abbrev pub total : {A : Type 0} → (A → ℕ) → List A → ℕ
total f [] = 0
total f (x ∷ xs) = f x + total f xs

-- this holds of each item
abbrev pub Each : {A : Type 0} → (A → Type 0) → List A → Type 0
Each P [] = Unit {0}
Each P (x ∷ xs) = P x × Each P xs

-- 1 if the numbers are the same, otherwise 0
abbrev pub hit : ℕ → ℕ → ℕ
hit x y = cond (x == y) 1 0
