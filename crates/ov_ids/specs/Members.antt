-- Lists and their members.
use Rattle.std.specs.Prelude.{◌≡◌, ℕ, ◌<◌, ◌⊎◌, List, [], ◌∷◌}
use Rattle.std.specs.List.{AllByRecursion}

-- x is in the list
abbrev pub Has : {X : Type 0} → List X → X → Type 0
Has [] x = ⊥
Has (y ∷ ys) x = (y ≡ x) ⊎ Has ys x

-- no id is in the list twice
abbrev pub IsDistinct : List ℕ → Type 0
IsDistinct [] = Unit {0}
IsDistinct (x ∷ xs) = ¬ Has xs x × IsDistinct xs

-- no member of xs is in s
abbrev pub IsApart : List ℕ → List ℕ → Type 0
IsApart s xs = (x : ℕ) → Has xs x → ¬ Has s x

-- each item has the relation R to each later one
abbrev pub Ordered : {X : Type 0} → (X → X → Type 0) → List X → Type 0
Ordered R [] = Unit {0}
Ordered R (x ∷ xs) = AllByRecursion (R x) xs × Ordered R xs

-- each id is below all later ones; each set of ids is written by exactly one such list
abbrev pub Ascends : List ℕ → Type 0
Ascends = Ordered (λ x y. x < y)
