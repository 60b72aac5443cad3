-- Sets of ids, each written as the list of its members in ascending order.
use Rattle.std.specs.Prelude.{ℕ, suc, ◌<◌, ◌≤◌, ◌≡◌, Bool, false, IsTrue, not, List, [], ◌∷◌, ◌==◌, length}
use Rattle.std.specs.Prelude.{slice_index, nat_lt, filter, if◌then◌else◌}
use Rattle.std.specs.List.{list_any}
use Rattle.ov_ids.specs.Members.{Ascends}

-- how many members an `IdSet` may have
abbrev pub most_members : ℕ
most_members = 64

-- the list is a set: its ids ascend
abbrev pub IsSet : List ℕ → Type 0
IsSet = Ascends

-- whether x is a member
abbrev pub has : List ℕ → ℕ → Bool
has xs x = list_any (λ y. y == x) xs

-- x is a member
abbrev pub IsIn : List ℕ → ℕ → Type 0
IsIn xs x = IsTrue (has xs x)

-- the set with x
abbrev pub adding : ℕ → List ℕ → List ℕ
adding x [] = x ∷ []
adding x (y ∷ ys) = if nat_lt x y then x ∷ y ∷ ys else y ∷ (if nat_lt y x then adding x ys else ys)

-- the set without x
abbrev pub without : ℕ → List ℕ → List ℕ
without x xs = filter (λ y. not (y == x)) xs

-- the set without any of these
abbrev pub without_all : List ℕ → List ℕ → List ℕ
without_all [] xs = xs
without_all (y ∷ ys) xs = without_all ys (without y xs)

-- how many ids come before the first that is not below x; for a set, how many members are below x
abbrev pub count_below : ℕ → List ℕ → ℕ
count_below x [] = 0
count_below x (y ∷ ys) = if nat_lt y x then suc (count_below x ys) else 0

-- x is no member of the set, and i is its gap, the place at which it goes in: so many members are below x
abbrev pub IsGapOf : List ℕ → ℕ → ℕ → Type 0
IsGapOf set x i = (has set x ≡ false) × (i ≡ count_below x set)

-- p is the place for x: each id before it is below x, and the id at it, if there is one, is not
pub record IsPlaceFor (xs : List ℕ) (x p : ℕ) : Type 0 where
  pub within : p ≤ length xs
  pub below : (i : ℕ) → i < p → slice_index xs i < x
  pub reached : p < length xs → x ≤ slice_index xs p
