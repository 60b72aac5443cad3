-- The paths of a certificate: those that were found for pieces, and the same paths by ids.
use Rattle.std.specs.Prelude.{◌≡◌, ◌↔◌, ◌-◌, ℕ, List, map}
use Rattle.ov_ids.specs.Members.{Has, Ordered}
use Rattle.ov_graph.specs.Links.{LinkGraph}
use Rattle.ov_graph.specs.Paths.{node_at}
use Rattle.ov_fans.specs.Pieces.{IsPiece, IsLinkedPair, AreAskedPaths, level_of, paths_of}
use Rattle.ov_fans.specs.Cuts.{AreRightPaths}
use Rattle.ov_fans.specs.declared.piece.Piece.{Piece}
use Rattle.ov_even.specs.First.{IsFirst}
use Rattle.ov_even.specs.Order.{ComesBefore}
use Rattle.ov_even.specs.declared.paths_by_ids.FoundPaths.{FoundPaths}
use Rattle.ov_even.specs.declared.paths_by_ids.NamedPaths.{NamedPaths}

-- a piece of the level that is no linked pair
abbrev pub IsUnlinked : LinkGraph → List ℕ → ℕ → Piece → Type 0
IsUnlinked g q level p = IsPiece g q p × (level_of p ≡ level) × ¬ IsLinkedPair g q p

-- the pieces of the level that are no linked pairs, in order
pub record AreUnlinkedPieces (g : LinkGraph) (q : List ℕ) (level : ℕ) (pieces : List Piece) : Type 0 where
  pub order : Ordered ComesBefore pieces
  pub each : (p : Piece) → Has pieces p ↔ IsUnlinked g q level p

-- the pieces whose paths a certificate has: those of the level below the first piece that is not good, but for linked
-- pairs. At level 0 there are none
abbrev pub AreWanted : LinkGraph → List ℕ → List Piece → Type 0
AreWanted g q pieces = (p : Piece) → IsFirst g q p → AreUnlinkedPieces g q (level_of p - 1) pieces

-- each of these is a piece for the graph and the group, with paths that are right for it
abbrev pub AreFound : LinkGraph → List ℕ → List FoundPaths → Type 0
AreFound g q found = (f : FoundPaths) → Has found f → IsPiece g q f.piece × AreRightPaths g q f.piece f.paths.now

-- the piece with its paths by ids
abbrev pub named_of : LinkGraph → List ℕ → FoundPaths → NamedPaths
named_of g q f = record { piece = f.piece; paths = paths_of q f.piece (map (map (node_at g)) f.paths.now) }

-- each of these pieces has the paths that it asks for
abbrev pub HaveAskedPaths : LinkGraph → List ℕ → List NamedPaths → Type 0
HaveAskedPaths g q named = (n : NamedPaths) → Has named n → AreAskedPaths g q n.piece n.paths
