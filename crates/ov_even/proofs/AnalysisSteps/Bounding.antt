-- The bounds of a search after each try of a level.
use Rattle.std.proofs.Common.{◌≡◌, ◌∙◌, inl, inr, ℕ, ◌≤◌, ◌+◌, ◌-◌, List, [], length, take, refl, sym, subst, arith}
use Rattle.std.proofs.lemmas.Bool.{cases_lt}
use Rattle.ov_graph.specs.Links.{LinkGraph, IsGraph, IsWithinLimit, IsGroup}
use Rattle.ov_graph.specs.Joined.{NoFewerSplit}
use Rattle.ov_graph.specs.Even.{PassesEven}
use Rattle.ov_graph.proofs.EvenTest.Sufficing.{even_suffices, linked_joined}
use Rattle.ov_fans.specs.Pieces.{IsPiece, IsGood, level_of}
use Rattle.ov_fans.specs.declared.piece.Piece.{Piece}
use Rattle.ov_even.specs.Hauls.{IsInHauls}
use Rattle.ov_even.specs.Levels.{IsLevelGood, AreFirstDone, SearchState}
use Rattle.ov_even.specs.Searching.{last_search}
use Rattle.ov_even.specs.Code.Narrowing.{HasDeciding, AreBounds, BoundsState, AreKept, SplitsWith}
use Rattle.ov_even.specs.declared.worker_haul.Haul.{Haul}
use Rattle.ov_even.specs.declared.worker_haul.Keeping.TheVariants.{CutsAlone}
use Rattle.ov_even.proofs.AnalysisSteps.Failing.{split_fails}
use Rattle.ov_even.proofs.AnalysisSteps.FirstMembers.{unsplit_first}
use Rattle.ov_even.proofs.AnalysisSteps.Narrowing.{two_nodes}
use Rattle.ov_even.proofs.EvenTest.Complete.{none_split}
use Rattle.ov_even.proofs.EvenTest.Passing.{good_passes, split_has, whole_good}
use Rattle.ov_even.proofs.PieceOrder.PieceLevels.{level_low}

-- no piece has level 0
pub level_none : (g : LinkGraph) (q : List ℕ) → IsLevelGood g q 0
level_none g q p at e =
    let low = level_low g q p at in
    absurd (omega (arith, low, e))

-- the bounds after a level turned out to be good: it becomes the lower one
pub raised_bounds : (g : LinkGraph) (q : List ℕ) (low level high : ℕ) → HasDeciding g q → AreBounds g q low high
    → level ≤ high → IsLevelGood g q level → AreBounds g q level high
raised_bounds g q low level high has bounds most good =
    let below = bounds.below in
    let even = good_passes g q level has.group (omega (arith, most, below)) good in
    record {
      rises = elim (cases_lt level high) [
        | inl l ↦ l
        | inr l ↦
            let e : level ≡ high = omega (arith, l, most) in
            absurd (bounds.fails (subst (PassesEven g q) e even))
      ];
      below = below;
      good = good;
      fails = bounds.fails;
    }

-- the bounds after a cut turned out to split the group: the level above its size is not good
pub lowered_bounds : (g : LinkGraph) (q : List ℕ) (low level high size : ℕ) → HasDeciding g q → AreBounds g q low high
    → level ≤ high → SplitsWith g q level size → AreBounds g q low (size + 1)
lowered_bounds g q low level high size has bounds most w =
    let below = bounds.below in
    let rises = bounds.rises in
    let few = w.few in
    let count = w.count in
    let even = good_passes g q low has.group (omega (arith, rises, below)) bounds.good in
    let many = split_has g q low w.set has.group even w.split in
    record {
      rises = omega (arith, many, count);
      below = omega (arith, few, most, below);
      good = bounds.good;
      fails = split_fails g q w.set (size + 1) has.group w.split (omega (arith, count));
    }

-- the bounds where the number of the group is known to be k: fewer than k nodes never split it, and k nodes do
pub known_bounds : (g : LinkGraph) (q : List ℕ) (k : ℕ) → HasDeciding g q → NoFewerSplit g q k
    → ¬ NoFewerSplit g q (k + 1) → AreBounds g q k (k + 1)
known_bounds g q k has whole split = record {
  rises = omega arith;
  below = elim (cases_lt (k + 1) (length g.nodes)) [
    | inl l ↦ l
    | inr l ↦
        let n = length g.nodes - 1 in
        let many = two_nodes g q has.group has.apart in
        absurd (has.apart
        (none_split g q n has.graph has.group (omega (arith, many)) (λ s few. whole s (omega (arith, few, l, many)))))
  ];
  good = λ p at e. whole_good g q k p has.graph has.group whole at (omega (arith, e));
  fails = λ even. split (even_suffices g q (k + 1) has.group even);
}

-- a group that some set of fewer than k nodes splits has a deciding piece, since two members are not linked
pub known_deciding : (g : LinkGraph) (q : List ℕ) (k : ℕ) → IsGraph g → IsWithinLimit g → IsGroup g q
    → ¬ NoFewerSplit g q k → HasDeciding g q
known_deciding g q k graph within group split = record {
  graph = graph;
  within = within;
  group = group;
  apart = λ all. split (λ s few a b ma mb. linked_joined g q group.nodes all s a b ma mb);
}

-- the search of the one level above a known number
pub known_search : (s : SearchState) (g : LinkGraph) (q : List ℕ) (fewest : ℕ) → s.graph ≡ g → s.members ≡ q
    → s.level ≡ fewest + 1 → s.left ≡ 1 → s ≡ last_search g q fewest
known_search s g q fewest a b c d = rw (← a, ← b, ← c, ← d) refl

-- where a number is known, no haul is kept of the level below
pub known_kept : (bounds : BoundsState) (kept : List Haul) (g : LinkGraph) (q : List ℕ) (fewest : ℕ)
    → bounds.search ≡ last_search g q fewest → bounds.low ≡ fewest → kept ≡ [] → IsLevelGood g q fewest
    → AreKept CutsAlone bounds kept
known_kept bounds kept g q fewest is low none good = record {
  right = λ s h. absurd (let k = subst (λ (l : List Haul). IsInHauls l s) none h in k.1);
  done = subst (λ (s : SearchState). (r : Piece) → IsPiece s.graph s.members r → level_of r ≡ bounds.low
      → IsGood s.graph s.members r) (sym is) (λ r at e. good r at (e ∙ low));
}

-- and the pieces for first members that no so few nodes split are done with
pub known_first : (s : SearchState) (g : LinkGraph) (q : List ℕ) (fewest unsplit : ℕ) → s ≡ last_search g q fewest
    → IsGraph g → IsGroup g q → unsplit ≤ length q → NoFewerSplit g (take unsplit q) (fewest + 1)
    → AreFirstDone CutsAlone s.graph s.members s.level unsplit
known_first s g q fewest unsplit is graph group few whole =
    subst (λ (t : SearchState). AreFirstDone CutsAlone t.graph t.members t.level unsplit) (sym is)
    (unsplit_first g q (fewest + 1) unsplit graph group few whole)
