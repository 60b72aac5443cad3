-- Theorems about every graph, group and piece.
use Rattle.std.specs.Prelude.{◌≡◌, ◌↔◌, ℕ, List}
use Rattle.ov_graph.specs.Links.{LinkGraph, IsGraph}
use Rattle.ov_fans.specs.Pieces.{IsGood}
use Rattle.ov_fans.specs.Cuts.{IsParted, IsRight}
use Rattle.ov_fans.specs.declared.piece.Piece.{Piece}
use Rattle.ov_fans.specs.declared.piece_result.Parting.{Parting}
use Rattle.ov_fans.specs.declared.piece_result.Found.{Found}
use Rattle.ov_fans.specs.declared.piece_result.Found.TheVariants.{Linked, Paths, Cut}
use Rattle.ov_fans.specs.declared.piece_result.Settled.{Settled}

-- a piece has at most one parting: two have the same cut, near, far and side
abbrev pub SameCut : Type 0
SameCut = (g : LinkGraph) (q : List ℕ) (p : Piece) (c d : Parting) → IsParted g q p c → IsParted g q p d
    → (c.cut ≡ d.cut) × (c.near ≡ d.near) × (c.far ≡ d.far) × (c.side ≡ d.side)

-- the result is not a cut
abbrev pub IsNoCut : Found → Type 0
IsNoCut Linked = Unit {0}
IsNoCut (Paths paths) = Unit {0}
IsNoCut (Cut parting) = ⊥

-- a piece is good if and only if its right result is not a cut
abbrev pub RightDecides : Type 0
RightDecides = (g : LinkGraph) (q : List ℕ) (s : Settled) → IsGraph g → IsRight g q s
    → IsGood g q s.piece ↔ IsNoCut s.found
