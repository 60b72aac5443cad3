-- A piece is good exactly where its result is not a cut.
use Rattle.std.proofs.Common.{◌↔◌, ℕ, inl, inr, List}
use Rattle.ov_graph.specs.Links.{LinkGraph, IsGraph}
use Rattle.ov_fans.specs.Pieces.{IsGood}
use Rattle.ov_fans.specs.Cuts.{IsFoundFor}
use Rattle.ov_fans.specs.Theorems.{IsNoCut, RightDecides}
use Rattle.ov_fans.specs.declared.piece.Piece.{Piece}
use Rattle.ov_fans.specs.declared.piece_result.Found.{Found}
use Rattle.ov_fans.specs.declared.piece_result.Found.TheVariants.{Linked, Paths, Cut}
use Rattle.ov_fans.proofs.PieceCuts.Refuted.{cut_refutes}

pub found_decides : (g : LinkGraph) (q : List ℕ) (p : Piece) (found : Found) → IsGraph g → IsFoundFor g q p found
    → IsGood g q p ↔ IsNoCut found
found_decides g q p Linked graph right = ((λ h. tt), (λ h. inl right))
found_decides g q p (Paths paths) graph right = ((λ h. tt), (λ h. inr (_, right.1.asked)))
found_decides g q p (Cut parting) graph right = (
  (λ h. cut_refutes g q p parting.value.cut graph right.cut.least.cut right.few h),
  (λ h. absurd h),
)

pub decides : RightDecides
decides g q s graph right = found_decides g q s.piece s.found graph right
