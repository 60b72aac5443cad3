-- The levels of pieces.
use Rattle.std.proofs.Common.{ℕ, ◌<◌, ◌≤◌, List, length, arith}
use Rattle.ov_graph.specs.Links.{LinkGraph}
use Rattle.ov_fans.specs.Pieces.{IsPiece, IsPieceOf, level_of}
use Rattle.ov_fans.specs.declared.piece.Piece.{Piece}
use Rattle.ov_fans.specs.declared.piece.Piece.TheVariants.{Pair, Fan}

-- the lowest level is 1
pub level_from : (n m : ℕ) (p : Piece) → IsPieceOf n m p → 1 ≤ level_of p
level_from n m (Pair level i j) at =
    let first = at.first in
    let less = at.less in
    let among = at.among in
    omega (arith, first, less, among)
level_from n m (Fan level j) at = at.low

-- the highest level is one less than the number of nodes
pub level_to : (n m : ℕ) (p : Piece) → IsPieceOf n m p → level_of p < n
level_to n m (Pair level i j) at = at.high
level_to n m (Fan level j) at = at.high

-- the same for a graph and a group
pub level_low : (g : LinkGraph) (q : List ℕ) (p : Piece) → IsPiece g q p → 1 ≤ level_of p
level_low g q p at = level_from (length g.nodes) (length q) p at

pub level_high : (g : LinkGraph) (q : List ℕ) (p : Piece) → IsPiece g q p → level_of p < length g.nodes
level_high g q p at = level_to (length g.nodes) (length q) p at
