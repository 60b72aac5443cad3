-- The levels of pieces: when a level is good and when it was tried, the state of the search for the level of the
-- deciding piece, and the numbers of the pieces of a level.
use Rattle.std.specs.Prelude.{◌≡◌, ◌↔◌, ◌⊎◌, ℕ, ◌+◌, ◌<◌, ◌≤◌, List, [], length}
use Rattle.ov_graph.specs.Links.{LinkGraph}
use Rattle.ov_fans.specs.Pieces.{IsPiece, IsPieceOf, IsGood, level_of}
use Rattle.ov_fans.specs.Theorems.{IsNoCut}
use Rattle.ov_fans.specs.declared.piece.Piece.{Piece}
use Rattle.ov_fans.specs.declared.piece_result.Settled.{Settled}
use Rattle.ov_even.specs.Order.{ComesBefore, IsNumbered, AreSoMany}
use Rattle.ov_even.specs.Hauls.{IsInHauls, IsDone}
use Rattle.ov_even.specs.declared.worker_haul.Haul.{Haul}
use Rattle.ov_even.specs.declared.worker_haul.Keeping.{Keeping}

-- a level is good: each of its pieces is good
abbrev pub IsLevelGood : LinkGraph → List ℕ → ℕ → Type 0
IsLevelGood g q level = (p : Piece) → IsPiece g q p → level_of p ≡ level → IsGood g q p

-- a level is done with: each of its pieces is
abbrev pub IsLevelDone : Keeping → LinkGraph → List ℕ → List Haul → ℕ → Type 0
IsLevelDone keeping g q hauls level =
    (r : Piece) → IsPiece g q r → level_of r ≡ level → IsDone keeping g q hauls r

-- s is a piece of the level with a cut, and each piece of the level before it is done with
pub record StopsAt (keeping : Keeping) (g : LinkGraph) (q : List ℕ) (hauls : List Haul) (level : ℕ) (s : Settled)
    : Type 0 where
  pub there : IsInHauls hauls s
  pub of_level : level_of s.piece ≡ level
  pub cut : ¬ IsNoCut s.found
  pub before : (r : Piece) → IsPiece g q r → level_of r ≡ level → ComesBefore r s.piece → IsDone keeping g q hauls r

-- a level was tried: it is done with, or the hauls stop at one of its pieces
abbrev pub IsTried : Keeping → LinkGraph → List ℕ → List Haul → ℕ → Type 0
IsTried keeping g q hauls level =
    IsLevelDone keeping g q hauls level ⊎ ((s : Settled) × StopsAt keeping g q hauls level s)

-- a search: the graph and the group whose deciding piece is looked for, the level to try next, and a bound on how many
-- levels are still tried, this one among them
pub record SearchState : Type 0 where
  pub graph : LinkGraph
  pub members : List ℕ
  pub level : ℕ
  pub left : ℕ

-- a search, and what its hauls keep
pub record KeepingSearch : Type 0 where
  pub search : SearchState
  pub keeping : Keeping

-- the pieces of a level for the first members, `done` of them, are done with, whatever hauls there are
pub record AreFirstDone (keeping : Keeping) (g : LinkGraph) (q : List ℕ) (level done : ℕ) : Type 0 where
  pub few : done ≤ length q
  pub each : (r : Piece) → IsPieceOf (length g.nodes) done r → level_of r ≡ level → IsDone keeping g q [] r

-- the pieces of a level, but those for the first members, `done` of them, have the numbers from `first` on, `size` of
-- them
pub record AreNumbersBehind (n m done level first size : ℕ) : Type 0 where
  pub each : (x : ℕ) (r : Piece) → IsNumbered n m x r
      → ((level_of r ≡ level) × ¬ IsPieceOf n done r) ↔ ((first ≤ x) × (x < first + size))
  pub fits : (total : ℕ) → AreSoMany n m total → first + size ≤ total
