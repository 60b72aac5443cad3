-- The order of the pieces of Even's test, and their numbers (Even, SIAM J. Comput. 4, 1975).
use Rattle.std.specs.Prelude.{◌≡◌, ◌↔◌, ◌⊎◌, ℕ, ◌<◌, ⊤, List, length, slice_get, Some}
use Rattle.ov_ids.specs.Members.{Has, Ordered}
use Rattle.ov_fans.specs.Pieces.{IsPieceOf, level_of}
use Rattle.ov_fans.specs.declared.piece.Piece.{Piece}
use Rattle.ov_fans.specs.declared.piece.Piece.TheVariants.{Pair, Fan}

-- the order within a level: pairs before fans; pairs by their second member, then by their first; fans by their member
abbrev pub PrecedesInLevel : Piece → Piece → Type 0
PrecedesInLevel (Pair level i j) (Pair other k l) = (j < l) ⊎ ((j ≡ l) × (i < k))
PrecedesInLevel (Pair level i j) (Fan other l) = ⊤
PrecedesInLevel (Fan level j) (Pair other k l) = ⊥
PrecedesInLevel (Fan level j) (Fan other l) = j < l

-- the order of all pieces: by level, and within a level as above
abbrev pub ComesBefore : Piece → Piece → Type 0
ComesBefore p r = (level_of p < level_of r) ⊎ ((level_of p ≡ level_of r) × PrecedesInLevel p r)

-- the list of all pieces, in order, for graphs of n nodes and groups of m members
pub record AreAllPieces (n m : ℕ) (pieces : List Piece) : Type 0 where
  pub order : Ordered ComesBefore pieces
  pub each : (p : Piece) → Has pieces p ↔ IsPieceOf n m p

-- the number of a piece is its place in that list, counted from 0
pub record IsNumbered (n m number : ℕ) (p : Piece) : Type 0 where
  pub pieces : List Piece
  pub all : AreAllPieces n m pieces
  pub there : slice_get pieces number ≡ Some p

-- `total` is the number of all pieces
pub record AreSoMany (n m total : ℕ) : Type 0 where
  pub pieces : List Piece
  pub all : AreAllPieces n m pieces
  pub count : length pieces ≡ total

-- the number is below the number of all pieces, so some piece has it
abbrev pub AreMoreThan : ℕ → ℕ → ℕ → Type 0
AreMoreThan n m number = (total : ℕ) → AreSoMany n m total → number < total
