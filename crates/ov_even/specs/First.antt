-- The piece that decides an analysis: the first one that is not good.
use Rattle.std.specs.Prelude.{ℕ, List}
use Rattle.ov_graph.specs.Links.{LinkGraph}
use Rattle.ov_fans.specs.Pieces.{IsPiece, IsGood}
use Rattle.ov_fans.specs.declared.piece.Piece.{Piece}
use Rattle.ov_even.specs.Order.{ComesBefore}

-- p is the first piece that is not good: every piece before it is good
pub record IsFirst (g : LinkGraph) (q : List ℕ) (p : Piece) : Type 0 where
  pub piece : IsPiece g q p
  pub fails : ¬ IsGood g q p
  pub before : (r : Piece) → IsPiece g q r → ComesBefore r p → IsGood g q r
