-- The first piece that is not good is unique, and it gives the number of the group.
use Rattle.std.proofs.Common.{◌≡◌, ℕ, ◌+◌, ◌-◌, ◌<◌, inl, inr, List, length, arith}
use Rattle.ov_graph.specs.Links.{LinkGraph, IsGraph, AreAllLinked, IsGroup}
use Rattle.ov_graph.specs.Joined.{FewestForGroup}
use Rattle.ov_graph.specs.Even.{PassesEven}
use Rattle.ov_graph.proofs.EvenTest.Sufficing.{linked_whole}
use Rattle.ov_fans.specs.Pieces.{IsPiece, IsGood, level_of}
use Rattle.ov_fans.specs.Cuts.{IsCut}
use Rattle.ov_fans.specs.declared.piece.Piece.{Piece}
use Rattle.ov_even.specs.First.{IsFirst}
use Rattle.ov_even.specs.Levels.{IsLevelGood}
use Rattle.ov_even.specs.Theorems.{FirstGivesNumber, OneFirst}
use Rattle.ov_even.proofs.PieceOrder.PieceLevels.{level_low, level_high}
use Rattle.ov_even.proofs.PieceOrder.Ordering.{one_comes_before}
use Rattle.ov_even.proofs.EvenTest.Cutting.{good_or_cut}
use Rattle.ov_even.proofs.EvenTest.Splitting.{piece_splits}
use Rattle.ov_even.proofs.EvenTest.Passing.{good_passes, split_has}

-- there is at most one first piece that is not good
pub one_first : OneFirst
one_first g q p r first other = elim (one_comes_before p r) [
  | inl same ↦ same
  | inr o ↦ elim o [
    | inl before ↦ absurd (first.fails (other.before p first.piece before))
    | inr behind ↦ absurd (other.fails (first.before r other.piece behind))
  ]
]

-- the level below that of the first piece that is not good is good
pub under_good : (g : LinkGraph) (q : List ℕ) (p : Piece) (k : ℕ) → IsFirst g q p → level_of p ≡ k + 1
    → IsLevelGood g q k
under_good g q p k first e r at same = first.before r at (inl (omega (arith, e, same)))

-- Even's test passes at that level
pub first_passes : (g : LinkGraph) (q : List ℕ) (p : Piece) (k : ℕ) → IsGroup g q → IsFirst g q p → level_of p ≡ k + 1
    → PassesEven g q k
first_passes g q p k group first e =
    let high = level_high g q p first.piece in
    good_passes g q k group (omega (arith, e, high)) (under_good g q p k first e)

-- a cut of that piece with fewer nodes than its level has exactly one node fewer
pub first_counts : (g : LinkGraph) (q : List ℕ) (p : Piece) (k : ℕ) (s : List ℕ) → IsGroup g q → IsFirst g q p
    → level_of p ≡ k + 1 → IsCut g q p s → length s < level_of p → length s ≡ k
first_counts g q p k s group first e cut few =
    let split = piece_splits g q p s group first.piece cut few in
    let many = split_has g q k s group (first_passes g q p k group first e) split in
    omega (arith, e, few, many)

-- the number of the group is one less than its level: such a cut splits the group, and fewer nodes do not
pub number_is : (g : LinkGraph) (q : List ℕ) (p : Piece) (k : ℕ) → IsGraph g → IsGroup g q → IsFirst g q p
    → level_of p ≡ k + 1 → FewestForGroup g q k
number_is g q p k graph group first e = elim (good_or_cut g q p graph group first.piece) [
  | inl good ↦ absurd (first.fails good)
  | inr c ↦
      let cut = c.1.nearest.least.cut in
      let few = c.1.few in
      record {
        group = group;
        reached = inl (
          c.0,
          first_counts g q p k c.0 group first e cut few,
          piece_splits g q p c.0 group first.piece cut few,
        );
        least = λ s less split.
            let many = split_has g q k s group (first_passes g q p k group first e) split in
            omega (arith, less, many);
      }
]

-- if a piece is not good, two members are not linked
pub fails_apart : (g : LinkGraph) (q : List ℕ) (p : Piece) → IsGraph g → IsGroup g q → IsPiece g q p → ¬ IsGood g q p
    → ¬ AreAllLinked g q
fails_apart g q p graph group at fails all = elim (good_or_cut g q p graph group at) [
  | inl good ↦ fails good
  | inr c ↦
      linked_whole g q group.nodes all c.0 (piece_splits g q p c.0 group at c.1.nearest.least.cut c.1.few)
]

-- the level of the first piece that is not good, less one, is the number of the group
pub first_gives_number : FirstGivesNumber
first_gives_number g q p graph group first =
    let low = level_low g q p first.piece in
    number_is g q p (level_of p - 1) graph group first (omega (arith, low))
