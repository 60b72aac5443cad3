-- The pieces that several workers have settled, and when these suffice for a certificate or its outline. A haul is the
-- list of pieces that one worker has settled. It keeps each of them, or those with a cut alone.
use Rattle.std.specs.Prelude.{◌≡◌, ◌⊎◌, ℕ, ◌+◌, ◌≤◌, List, length, Option, Some, None, Result, IfOk, IfErr, Vec}
use Rattle.std.specs.Global.{Global}
use Rattle.ov_ids.specs.FaultOrder.{IsRefusedBy}
use Rattle.ov_ids.specs.Members.{Has}
use Rattle.ov_graph.specs.Links.{LinkGraph, IsGroup, AreAllLinked}
use Rattle.ov_fans.specs.Pieces.{IsPiece, IsGood, IsLinkedPair, level_of}
use Rattle.ov_fans.specs.Cuts.{IsRight}
use Rattle.ov_fans.specs.Theorems.{IsNoCut}
use Rattle.ov_fans.specs.declared.piece.Piece.{Piece}
use Rattle.ov_fans.specs.declared.piece_result.Settled.{Settled}
use Rattle.ov_even.specs.Faults.{GroupJudged}
use Rattle.ov_even.specs.Order.{ComesBefore, IsNumbered}
use Rattle.ov_even.specs.declared.fault.AnalyseFault.{AnalyseFault}
use Rattle.ov_even.specs.declared.fault.AnalyseFault.TheVariants.{OutOfMemory}
use Rattle.ov_even.specs.declared.worker_haul.Haul.{Haul}
use Rattle.ov_even.specs.declared.worker_haul.Keeping.{Keeping}
use Rattle.ov_even.specs.declared.worker_haul.Keeping.TheVariants.{EachPiece, CutsAlone}

-- `s` is one of these settled pieces, and its piece has this number
abbrev pub SettlesNumber : LinkGraph → List ℕ → List Settled → ℕ → Settled → Type 0
SettlesNumber g q pieces number s = Has pieces s × IsNumbered (length g.nodes) (length q) number s.piece

-- a settled piece is in one of the hauls
abbrev pub IsInHauls : List Haul → Settled → Type 0
IsInHauls hauls s = (haul : Haul) × Has hauls haul × Has haul.pieces.items s

-- every settled piece in the hauls has a right result for the graph and the group
abbrev pub AreRight : LinkGraph → List ℕ → List Haul → Type 0
AreRight g q hauls = (s : Settled) → IsInHauls hauls s → IsPiece g q s.piece × IsRight g q s

-- the piece is cleared: it is a linked pair, or the hauls have it without a cut
abbrev pub IsCleared : LinkGraph → List ℕ → List Haul → Piece → Type 0
IsCleared g q hauls r = IsLinkedPair g q r ⊎ ((t : Settled) × IsInHauls hauls t × (t.piece ≡ r) × IsNoCut t.found)

-- what hauls keep of a piece: of a good one nothing, where they keep cuts alone; else the piece with its right result
abbrev pub IsKeptOf : Keeping → LinkGraph → List ℕ → Piece → Option Settled → Type 0
IsKeptOf keeping g q p None = (keeping ≡ CutsAlone) × IsGood g q p
IsKeptOf keeping g q p (Some s) = (s.piece ≡ p) × IsRight g q s

-- the piece is done with: where hauls keep each piece, it is cleared; where they keep cuts alone, it is good
abbrev pub IsDone : Keeping → LinkGraph → List ℕ → List Haul → Piece → Type 0
IsDone EachPiece g q hauls r = IsCleared g q hauls r
IsDone CutsAlone g q hauls r = IsGood g q r

-- a piece with a cut decides: every piece before it is done with, of its own level and of the level below. Those of
-- lower levels need not be, since they are then good as well
pub record Decides (keeping : Keeping) (g : LinkGraph) (q : List ℕ) (hauls : List Haul) (s : Settled) : Type 0 where
  pub there : IsInHauls hauls s
  pub cut : ¬ IsNoCut s.found
  pub before : (r : Piece) → IsPiece g q r → ComesBefore r s.piece → level_of s.piece ≤ level_of r + 1
      → IsDone keeping g q hauls r

-- the hauls, which keep each piece or cuts alone, suffice: all results are right, and every two members are linked or
-- some piece decides
abbrev pub SufficeKeeping : Keeping → LinkGraph → List ℕ → List Haul → Type 0
SufficeKeeping keeping g q hauls =
    AreRight g q hauls × (AreAllLinked g q ⊎ ((s : Settled) × Decides keeping g q hauls s))

-- the hauls suffice for a certificate: they keep each piece, so that they have its paths
abbrev pub Suffice : LinkGraph → List ℕ → List Haul → Type 0
Suffice g q hauls = SufficeKeeping EachPiece g q hauls

-- the hauls suffice for the outline of a certificate, which has no paths, whatever they keep
abbrev pub SufficeForOutline : LinkGraph → List ℕ → List Haul → Type 0
SufficeForOutline g q hauls = (keeping : Keeping) × SufficeKeeping keeping g q hauls

-- how the settling of a group ends: the members are a group, and the hauls suffice for a certificate; or with the first
-- applicable refusal, out of memory if none applies
pub record IsSettledGroup (g : LinkGraph) (q : List ℕ) (result : Result (Vec Haul Global) AnalyseFault) : Type 0 where
  pub enough : IfOk result (λ hauls. IsGroup g q × Suffice g q hauls.items)
  pub refused : IfErr result (IsRefusedBy OutOfMemory (GroupJudged g q))
