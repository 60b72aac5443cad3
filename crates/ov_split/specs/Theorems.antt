-- Theorems about every net.
use Rattle.std.specs.Prelude.{◌≡◌, ◌↔◌, ℕ, ◌≤◌, List, length}
use Rattle.ov_split.specs.SplitNetState.{SplitNetState, IsSplitNet, IsFanOf, IsCutOf, IsNearestCut}

-- Menger's theorem in its fan form: a fan of k paths exists if and only if every cut has k nodes or more (Menger, Fund.
-- Math. 10, 1927)
abbrev pub Menger : Type 0
Menger = (n : SplitNetState) → IsSplitNet n → (k : ℕ)
    → ((paths : List (List ℕ)) × IsFanOf n k paths) ↔ ((s : List ℕ) → IsCutOf n s → k ≤ length s)

-- a net has at most one nearest minimum cut (Ford and Fulkerson, Flows in Networks, 1962)
abbrev pub OneNearestCut : Type 0
OneNearestCut = (n : SplitNetState) (s t : List ℕ) → IsNearestCut n s → IsNearestCut n t → s ≡ t
