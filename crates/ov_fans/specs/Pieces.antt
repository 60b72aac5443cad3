-- The pieces of Even's test for a group (Even, SIAM J. Comput. 4, 1975), and which of them are good. The level of a
-- piece is the number of paths that it asks for. A piece names members by their places in the group, counted from 1.
use Rattle.std.specs.Prelude.{◌≡◌, ℕ, ◌-◌, ◌<◌, ◌≤◌, ◌⊎◌, List, [], ◌∷◌, ◌++◌, map, length, slice_index}
use Rattle.ov_ids.specs.Members.{Has}
use Rattle.ov_graph.specs.Links.{LinkGraph, Linked}
use Rattle.ov_graph.specs.Paths.{ArePaths, IsFan}
use Rattle.ov_graph.specs.Even.{members_below}
use Rattle.ov_fans.specs.declared.piece.Piece.{Piece}
use Rattle.ov_fans.specs.declared.piece.Piece.TheVariants.{Pair, Fan}

-- the member at a place, counted from 1
abbrev pub member_at : List ℕ → ℕ → ℕ
member_at q place = slice_index q (place - 1)

-- the level of a piece: how many paths it asks for
abbrev pub level_of : Piece → ℕ
level_of (Pair level i j) = level
level_of (Fan level j) = level

-- a pair: the members at places i and j of m members, i below j, and j at most the level. The level is below the number
-- n of nodes, and so from 2 to n - 1
pub record IsPairPiece (n m level i j : ℕ) : Type 0 where
  pub high : level < n
  pub first : 1 ≤ i
  pub less : i < j
  pub among : j ≤ level
  pub member : j ≤ m

-- a fan: of the member at place j of m members, j above the level. The level is from 1 to n - 1, where n is the number
-- of nodes
pub record IsFanPiece (n m level j : ℕ) : Type 0 where
  pub low : 1 ≤ level
  pub high : level < n
  pub later : level < j
  pub member : j ≤ m

-- a pair or a fan of Even's test, for graphs of n nodes and groups of m members
abbrev pub IsPieceOf : ℕ → ℕ → Piece → Type 0
IsPieceOf n m (Pair level i j) = IsPairPiece n m level i j
IsPieceOf n m (Fan level j) = IsFanPiece n m level j

-- a piece of Even's test for a graph and a group
abbrev pub IsPiece : LinkGraph → List ℕ → Piece → Type 0
IsPiece g q p = IsPieceOf (length g.nodes) (length q) p

-- the member at which the paths of a piece begin
abbrev pub source_of : List ℕ → Piece → ℕ
source_of q (Pair level i j) = member_at q i
source_of q (Fan level j) = member_at q j

-- the place of that member, counted from 1
abbrev pub source_place : Piece → ℕ
source_place (Pair level i j) = i
source_place (Fan level j) = j

-- t is a member at which the paths may end: for a pair the other member, for a fan each member before its source
abbrev pub IsTarget : List ℕ → Piece → ℕ → Type 0
IsTarget q (Pair level i j) t = t ≡ member_at q j
IsTarget q (Fan level j) t = Has (members_below q (member_at q j)) t

-- the piece is a pair, and its two members are linked
abbrev pub IsLinkedPair : LinkGraph → List ℕ → Piece → Type 0
IsLinkedPair g q (Pair level i j) = Linked g (member_at q i) (member_at q j)
IsLinkedPair g q (Fan level j) = ⊥

-- the paths that a piece asks for
abbrev pub AreAskedPaths : LinkGraph → List ℕ → Piece → List (List ℕ) → Type 0
AreAskedPaths g q (Pair level i j) paths = ArePaths g (member_at q i) (member_at q j) level paths
AreAskedPaths g q (Fan level j) paths = IsFan g (member_at q j) (members_below q (member_at q j)) level paths

-- a piece is good if it is a linked pair, or the paths that it asks for exist
abbrev pub IsGood : LinkGraph → List ℕ → Piece → Type 0
IsGood g q p = IsLinkedPair g q p ⊎ ((paths : List (List ℕ)) × AreAskedPaths g q p paths)

-- the paths of a piece, from those that are kept. The paths of a pair are kept without their last node, which is the
-- other member
abbrev pub paths_of : List ℕ → Piece → List (List ℕ) → List (List ℕ)
paths_of q (Pair level i j) paths = map (λ path. path ++ member_at q j ∷ []) paths
paths_of q (Fan level j) paths = paths
