-- The pieces as lists, in their order: of one level, and of all levels. Column j of a level has the pieces of that
-- level whose last member is j. Up to the level a column consists of pairs; each later column is one fan.
use Rattle.std.specs.Prelude.{◌≡◌, ℕ, zero, suc, ◌+◌, ◌-◌, ◌<◌, ◌≤◌, ◌^◌, List, [], ◌∷◌, ◌++◌, if◌then◌else◌, nat_le}
use Rattle.ov_graph.specs.Links.{most_of_any_graph}
use Rattle.ov_fans.specs.declared.piece.Piece.{Piece}
use Rattle.ov_fans.specs.declared.piece.Piece.TheVariants.{Pair, Fan}

-- the places of members in a group are below this: each fits 16 bits
abbrev pub place_limit : ℕ
place_limit = 2 ^ 16

-- this many pairs of j: with i and the next members
unfoldable pub pairs_from : ℕ → ℕ → ℕ → ℕ → List Piece
pairs_from level j i zero = []
pairs_from level j i (suc left) = Pair level i j ∷ pairs_from level j (suc i) left

-- the rest of column j: the pairs of j with i and the later members below j, or the fan of j
unfoldable pub column_from : ℕ → ℕ → ℕ → List Piece
column_from level j i = if nat_le j level then pairs_from level j i (j - i) else Fan level j ∷ []

-- this many columns after column j
unfoldable pub columns_behind : ℕ → ℕ → ℕ → List Piece
columns_behind level j zero = []
columns_behind level j (suc left) = column_from level (suc j) 1 ++ columns_behind level (suc j) left

-- the pieces of a level, for a group of m members
abbrev pub pieces_of_level : ℕ → ℕ → List Piece
pieces_of_level m level = columns_behind level 0 m

-- the rest of the pieces of a level: the rest of column j from first member i on, and the later columns
unfoldable pub pieces_from : ℕ → ℕ → ℕ → ℕ → List Piece
pieces_from m level j i = if nat_le j m then column_from level j i ++ columns_behind level j (m - j) else []

-- the pieces of this many levels after this one
unfoldable pub levels_behind : ℕ → ℕ → ℕ → List Piece
levels_behind m level zero = []
levels_behind m level (suc left) = pieces_of_level m (suc level) ++ levels_behind m (suc level) left

-- all pieces of graphs with n nodes and groups of m members
abbrev pub all_pieces : ℕ → ℕ → List Piece
all_pieces n m = levels_behind m 0 (n - 1)

-- the number of pairs among this many members
unfoldable pub pairs_among : ℕ → ℕ
pairs_among zero = 0
pairs_among (suc count) = count + pairs_among count

-- the first and the last member of the next piece: the first comes before the last, and the group is within the limit
-- of nodes
pub record IsToCome (m i j : ℕ) : Type 0 where
  pub few : m ≤ most_of_any_graph
  pub less : i < j

-- the piece is the pair of this level that has `place` pairs before it
pub record IsPairPlaced (level place : ℕ) (p : Piece) : Type 0 where
  pub i : ℕ
  pub j : ℕ
  pub is : p ≡ Pair level i j
  pub first : 1 ≤ i
  pub less : i < j
  pub among : j ≤ level
  pub there : place ≡ pairs_among (j - 1) + (i - 1)
