-- A settled piece that decides is the first piece that is not good.
use Rattle.std.proofs.Common.{ℕ, ◌+◌, ◌-◌, inl, inr, List, subst, arith}
use Rattle.std.proofs.lemmas.Bool.{cases_lt}
use Rattle.ov_graph.specs.Links.{LinkGraph, IsGraph, IsGroup}
use Rattle.ov_fans.specs.Pieces.{IsPiece, IsGood, level_of}
use Rattle.ov_fans.specs.declared.piece.Piece.{Piece}
use Rattle.ov_fans.specs.declared.piece_result.Settled.{Settled}
use Rattle.ov_fans.proofs.PieceCuts.Decided.{decides}
use Rattle.ov_even.specs.Order.{ComesBefore}
use Rattle.ov_even.specs.First.{IsFirst}
use Rattle.ov_even.specs.Hauls.{AreRight, IsDone, Decides}
use Rattle.ov_even.specs.declared.worker_haul.Haul.{Haul}
use Rattle.ov_even.specs.declared.worker_haul.Keeping.{Keeping}
use Rattle.ov_even.specs.declared.worker_haul.Keeping.TheVariants.{EachPiece, CutsAlone}
use Rattle.ov_even.proofs.PieceOrder.PieceLevels.{level_low, level_high}
use Rattle.ov_even.specs.Levels.{IsLevelGood}
use Rattle.ov_even.proofs.EvenTest.Passing.{below_good}

-- a piece that is done with is good
pub done_good : (keeping : Keeping) (g : LinkGraph) (q : List ℕ) (hauls : List Haul) (r : Piece) → IsGraph g
    → AreRight g q hauls → IsDone keeping g q hauls r → IsGood g q r
done_good EachPiece g q hauls r graph right cleared = elim cleared [
  | inl l ↦ inl l
  | inr t ↦ subst (IsGood g q) t.2 ((decides g q t.0 graph (right t.0 t.1).1).1 t.3)
]
done_good CutsAlone g q hauls r graph right good = good

-- a piece before the deciding one is good: on its level and the level below since it is done with, on lower levels by
-- Even's test
before_good : (keeping : Keeping) (g : LinkGraph) (q : List ℕ) (hauls : List Haul) (s : Settled) (r : Piece)
    → IsGraph g → IsGroup g q → AreRight g q hauls → Decides keeping g q hauls s → IsPiece g q r
    → ComesBefore r s.piece → IsGood g q r
before_good keeping g q hauls s r graph group right decided at before =
    elim (cases_lt (level_of r + 1) (level_of s.piece)) [
      | inr near ↦ done_good keeping g q hauls r graph right (decided.before r at before near)
      | inl far ↦
          let k = level_of s.piece - 1 in
          let low = level_low g q r at in
          let high = level_high g q s.piece (right s decided.there).0 in
          let level : IsLevelGood g q k = λ p there e. done_good keeping g q hauls p graph right
          (decided.before p there (inl (omega (arith, e, far))) (omega (arith, e, far))) in
          below_good g q k r graph group (omega (arith, high)) level at (omega (arith, far))
    ]

-- a piece that decides is the first piece that is not good
pub decides_first : (keeping : Keeping) (g : LinkGraph) (q : List ℕ) (hauls : List Haul) (s : Settled) → IsGraph g
    → IsGroup g q → AreRight g q hauls → Decides keeping g q hauls s → IsFirst g q s.piece
decides_first keeping g q hauls s graph group right decided =
    let r = right s decided.there in
    record {
      piece = r.0;
      fails = λ good. decided.cut ((decides g q s graph r.1).0 good);
      before = λ p at before. before_good keeping g q hauls s p graph group right decided at before;
    }
