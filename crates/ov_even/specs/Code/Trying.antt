-- What is known of a level while its pieces are settled one after another, before they are a haul.
use Rattle.std.specs.Prelude.{◌≡◌, ◌⊎◌, ℕ, List}
use Rattle.ov_ids.specs.Members.{Has}
use Rattle.ov_graph.specs.Links.{LinkGraph}
use Rattle.ov_fans.specs.Pieces.{IsPiece, IsGood, IsLinkedPair}
use Rattle.ov_fans.specs.Cuts.{IsRight}
use Rattle.ov_fans.specs.Theorems.{IsNoCut}
use Rattle.ov_fans.specs.declared.piece.Piece.{Piece}
use Rattle.ov_fans.specs.declared.piece_result.Settled.{Settled}
use Rattle.ov_even.specs.declared.worker_haul.Keeping.{Keeping}
use Rattle.ov_even.specs.declared.worker_haul.Keeping.TheVariants.{EachPiece, CutsAlone}

-- each of these settled pieces has a right result for the graph and the group
abbrev pub AreSettledRight : LinkGraph → List ℕ → List Settled → Type 0
AreSettledRight g q pieces = (s : Settled) → Has pieces s → IsPiece g q s.piece × IsRight g q s

-- the piece is done with: where each piece is kept, it is among these without a cut, or is a linked pair; where cuts
-- alone are kept, it is good
abbrev pub IsDoneBy : Keeping → LinkGraph → List ℕ → List Settled → Piece → Type 0
IsDoneBy EachPiece g q pieces r =
    IsLinkedPair g q r ⊎ ((t : Settled) × Has pieces t × (t.piece ≡ r) × IsNoCut t.found)
IsDoneBy CutsAlone g q pieces r = IsGood g q r
