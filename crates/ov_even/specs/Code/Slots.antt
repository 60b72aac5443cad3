-- The paths of the pieces of a level, stored by the places of the pieces in the level.
use Rattle.std.specs.Prelude.{◌≡◌, ℕ, List, length, slice_get, Option, Some}
use Rattle.ov_ids.specs.Members.{Has}
use Rattle.ov_graph.specs.Links.{LinkGraph}
use Rattle.ov_fans.specs.Pieces.{IsPiece, IsLinkedPair, level_of}
use Rattle.ov_fans.specs.Cuts.{AreRightPaths}
use Rattle.ov_fans.specs.declared.piece.Piece.{Piece}
use Rattle.ov_fans.specs.declared.piece_result.Found.TheVariants.{Paths}
use Rattle.ov_fans.specs.declared.piece_result.Settled.{Settled}
use Rattle.ov_fans.specs.Pieces.{IsPieceOf}
use Rattle.ov_even.specs.Code.Levels.{pieces_of_level}

-- the piece has this place in its level, counted from 0
abbrev pub StandsAt : ℕ → Piece → ℕ → Type 0
StandsAt m p place = slice_get (pieces_of_level m (level_of p)) place ≡ Some p

-- the slots of a level, one for each piece: a slot has the paths of a settled piece at its place, exactly if there is
-- such a piece with paths
pub record AreSlotsOf (m level : ℕ) (seen : List Settled) (slots : List (Option (List (List ℕ)))) : Type 0 where
  pub size : length slots ≡ length (pieces_of_level m level)
  pub from : (place : ℕ) (paths : List (List ℕ)) → slice_get slots place ≡ Some (Some paths)
      → (s : Settled) × Has seen s × (level_of s.piece ≡ level) × StandsAt m s.piece place × (s.found ≡ Paths paths)
  pub all : (s : Settled) (paths : List (List ℕ)) (place : ℕ) → Has seen s → level_of s.piece ≡ level
      → s.found ≡ Paths paths → StandsAt m s.piece place
      → (others : List (List ℕ)) × (slice_get slots place ≡ Some (Some others))

-- each piece of the level that is not a linked pair has right paths in its slot
abbrev pub HaveSlots : LinkGraph → List ℕ → ℕ → List (Option (List (List ℕ))) → Type 0
HaveSlots g q level slots = (p : Piece) (place : ℕ) → IsPiece g q p → level_of p ≡ level → ¬ IsLinkedPair g q p
    → StandsAt (length q) p place
    → (paths : List (List ℕ)) × (slice_get slots place ≡ Some (Some paths)) × AreRightPaths g q p paths

-- each of these settled pieces is a piece for groups of m members
abbrev pub ArePiecesOf : ℕ → List Settled → Type 0
ArePiecesOf m seen = (s : Settled) → Has seen s → (n : ℕ) × IsPieceOf n m s.piece
