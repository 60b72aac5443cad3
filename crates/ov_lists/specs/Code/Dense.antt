-- How few blocks there are for the items that they have.
use Rattle.std.specs.Prelude.{ℕ, ◌+◌, ◌<◌, ◌≤◌, List, [], ◌∷◌, length, map, set, get_or}
use Rattle.std.specs.List.{remove}
use Rattle.ov_lists.specs.Code.Blocks.{Filled, block_size}

-- neighbours are joined if both together have at most this many items
abbrev pub most_joined : ℕ
most_joined = 127

-- how many items each block has
abbrev pub sizes : {T : Type 0} → List (Filled T) → List ℕ
sizes blocks = map (λ b. length b.items) blocks

-- a size, together with the first of these, is above what is joined
abbrev pub Exceeds : ℕ → List ℕ → Type 0
Exceeds n [] = Unit {0}
Exceeds n (m ∷ ms) = most_joined < n + m

-- no size is 0, and each two neighbours are together above what is joined
abbrev pub AreDense : List ℕ → Type 0
AreDense [] = Unit {0}
AreDense (n ∷ ns) = (0 < n) × Exceeds n ns × AreDense ns

-- the sizes with one item more at a place
abbrev pub with_more : List ℕ → ℕ → List ℕ
with_more ns i = set ns i (get_or ns i 0 + 1)

-- the sizes after the block at a place has taken in the items of the next one, which is gone
abbrev pub with_next : List ℕ → ℕ → List ℕ
with_next ns i = set (remove ns (i + 1)) i (get_or ns i 0 + get_or ns (i + 1) 0)

-- a block has memory for the items of the block at this place and of the next one
abbrev pub FitsWithNext : {T : Type 0} → List (Filled T) → ℕ → Type 0
FitsWithNext {T} bs i =
    (d : Filled T) → length (get_or bs i d).items + length (get_or bs (i + 1) d).items ≤ block_size
