-- The pieces of a level for the first members of a group, which may be known to be good.
use Rattle.std.proofs.Common.{◌≡◌, ◌⊎◌, ℕ, zero, suc, ◌-◌, ◌<◌, ◌≤◌, inl, inr, List, [], length, take, nat_lt}
use Rattle.std.proofs.Common.{sym, subst, arith}
use Rattle.std.proofs.lemmas.Bool.{cases_lt, ltb-true}
use Rattle.std.proofs.lemmas.List.{get_or-take, length-take-le}
use Rattle.ov_ids.specs.Members.{Has, Ascends}
use Rattle.ov_ids.proofs.Members.{has_take, has_from_take, place_of, same_ascending}
use Rattle.ov_graph.specs.Links.{LinkGraph, IsGraph, Linked, IsGroup}
use Rattle.ov_graph.specs.Joined.{NoFewerSplit}
use Rattle.ov_graph.specs.Paths.{ArePaths, IsFan}
use Rattle.ov_graph.specs.Even.{members_below}
use Rattle.ov_graph.proofs.EvenTest.Filtered.{has_filter, has_filtered}
use Rattle.ov_fans.specs.Pieces.{IsPieceOf, IsGood, member_at}
use Rattle.ov_fans.specs.declared.piece.Piece.{Piece}
use Rattle.ov_fans.specs.declared.piece.Piece.TheVariants.{Pair, Fan}
use Rattle.ov_fans.proofs.PieceNets.Aimed.{place_below}
use Rattle.ov_fans.proofs.PieceNets.Ranks.{below_ascend}
use Rattle.ov_cert.proofs.EntryOrder.Columns.{ascends_take}
use Rattle.ov_even.specs.Hauls.{IsDone}
use Rattle.ov_even.specs.Levels.{AreFirstDone}
use Rattle.ov_even.specs.Code.Levels.{pieces_of_level}
use Rattle.ov_even.specs.Code.Trying.{IsDoneBy}
use Rattle.ov_even.specs.declared.worker_haul.Haul.{Haul}
use Rattle.ov_even.specs.declared.worker_haul.Keeping.{Keeping}
use Rattle.ov_even.specs.declared.worker_haul.Keeping.TheVariants.{EachPiece, CutsAlone}
use Rattle.ov_even.proofs.AnalysisSteps.Trials.{AreDone}
use Rattle.ov_even.proofs.EvenTest.Passing.{whole_good}
use Rattle.ov_even.proofs.PieceNumbers.AllLevels.{level_has}

-- no members have no pieces
no_piece : (n : ℕ) (r : Piece) → ¬ IsPieceOf n 0 r
no_piece n (Pair level i j) at =
    let less = at.less in
    let last = at.member in
    absurd (omega (arith, less, last))
no_piece n (Fan level j) at =
    let later = at.later in
    let last = at.member in
    absurd (omega (arith, later, last))

-- where nothing is known, no members are the first ones
pub none_first : (keeping : Keeping) (g : LinkGraph) (q : List ℕ) (level : ℕ) → AreFirstDone keeping g q level 0
none_first keeping g q level =
    record { few = omega arith; each = λ r at e. absurd (no_piece (length g.nodes) r at) }

-- the first members of a group are a group
pub first_group : (g : LinkGraph) (q : List ℕ) (count : ℕ) → IsGroup g q → 0 < count → count ≤ length q
    → IsGroup g (take count q)
first_group g q count group some few = record {
  some_member = let long = length-take-le count q few in omega (arith, long, some);
  ascends = ascends_take count q group.ascends;
  nodes = λ x h. group.nodes x (has_from_take q count x h);
}

-- their places are those in the group
first_at : (q : List ℕ) (count place : ℕ) → 1 ≤ place → place ≤ count
    → member_at (take count q) place ≡ member_at q place
first_at q count place low high = get_or-take count q (place - 1) 0 (omega (arith, low, high))

-- and the members below one of them are the same
first_below : (q : List ℕ) (count place : ℕ) → Ascends q → 1 ≤ place → place ≤ count → count ≤ length q
    → members_below (take count q) (member_at q place) ≡ members_below q (member_at q place)
first_below q count place up low high few =
    let a = member_at q place in
    same_ascending (members_below (take count q) a) (members_below q a)
    (below_ascend (take count q) a (ascends_take count q up)) (below_ascend q a up)
    (λ x h.
    let r = has_filtered (λ y. nat_lt y a) (take count q) x h in
    has_filter (λ y. nat_lt y a) q x (has_from_take q count x r.0) r.1)
    (λ x h.
    let r = has_filtered (λ y. nat_lt y a) q x h in
    let less : x < a = ltb-true x a r.1 in
    let n = place_of q x r.0 in
    let at = n.2 in
    let before : n.0 < place - 1 =
    place_below q n.0 (place - 1) up n.1 (omega (arith, at, less)) (omega (arith, low, high, few)) in
    has_filter (λ y. nat_lt y a) (take count q) x
    (subst (Has (take count q)) at (has_take q count n.0 (omega (arith, before, high)) n.1)) r.1)

-- a piece that is good for the first members is good for the group
good_first : (g : LinkGraph) (q : List ℕ) (count : ℕ) (r : Piece) → IsGroup g q → count ≤ length q
    → IsPieceOf (length g.nodes) count r → IsGood g (take count q) r → IsGood g q r
good_first g q count (Pair level i j) group few at good =
    let first = at.first in
    let less = at.less in
    let last = at.member in
    let a = first_at q count i first (omega (arith, less, last)) in
    let b = first_at q count j (omega (arith, first, less)) last in
    elim good [
      | inl l ↦ inl (subst (λ (x : ℕ). Linked g x (member_at q j)) a
          (subst (λ (x : ℕ). Linked g (member_at (take count q) i) x) b l))
      | inr p ↦ inr (
        p.0,
        subst (λ (x : ℕ). ArePaths g x (member_at q j) level p.0) a
            (subst (λ (x : ℕ). ArePaths g (member_at (take count q) i) x level p.0) b p.1),
      )
    ]
good_first g q count (Fan level j) group few at good =
    let later = at.later in
    let last = at.member in
    let a = first_at q count j (omega (arith, later)) last in
    let b = first_below q count j group.ascends (omega (arith, later)) last few in
    elim good [
      | inl l ↦ absurd l
      | inr p ↦ inr (
        p.0,
        subst (λ (before : List ℕ). IsFan g (member_at q j) before level p.0) b
            (subst (λ (x : ℕ). IsFan g x (members_below (take count q) x) level p.0) a p.1),
      )
    ]

-- if fewer nodes than the level never split the first members, their pieces of the level are good
pub unsplit_first : (g : LinkGraph) (q : List ℕ) (level count : ℕ) → IsGraph g → IsGroup g q → count ≤ length q
    → NoFewerSplit g (take count q) level → AreFirstDone CutsAlone g q level count
unsplit_first g q level zero graph group few whole = none_first CutsAlone g q level
unsplit_first g q level (suc n) graph group few whole = record {
  few = few;
  each = λ r at e.
      let own = subst (λ (m : ℕ). IsPieceOf (length g.nodes) m r) (sym (length-take-le (suc n) q few)) at in
      good_first g q (suc n) r group few at
      (whole_good g (take (suc n) q) level r graph (first_group g q (suc n) group (omega arith) few) whole own
      (omega (arith, e)));
}

-- what is done with without hauls is done with, whatever hauls there are
pub done_anyway : (keeping : Keeping) (g : LinkGraph) (q : List ℕ) (hauls : List Haul) (r : Piece)
    → IsDone keeping g q [] r → IsDone keeping g q hauls r
done_anyway EachPiece g q hauls r done = elim done [ inl l ↦ inl l | inr t ↦ let h = t.1 in absurd (h.1) ]
done_anyway CutsAlone g q hauls r good = good

done_by_none : (keeping : Keeping) (g : LinkGraph) (q : List ℕ) (r : Piece) → IsDone keeping g q [] r
    → IsDoneBy keeping g q [] r
done_by_none EachPiece g q r done = elim done [ inl l ↦ inl l | inr t ↦ let h = t.1 in absurd (h.1) ]
done_by_none CutsAlone g q r good = good

-- the listed pieces for the first members are done with before any is settled
pub first_done : (keeping : Keeping) (g : LinkGraph) (q : List ℕ) (level done : ℕ) → 1 ≤ level
    → level < length g.nodes → AreFirstDone keeping g q level done
    → AreDone keeping g q [] (pieces_of_level done level)
first_done keeping g q level done low high first r h =
    let is = (level_has (length g.nodes) done level r low high).0 h in
    done_by_none keeping g q r (first.each r is.0 is.1)

-- a piece of the group is one for the first members, or not
pub first_or_not : (n m count : ℕ) (r : Piece) → IsPieceOf n m r → IsPieceOf n count r ⊎ (¬ IsPieceOf n count r)
first_or_not n m count (Pair level i j) at = elim (cases_lt count j) [
  | inl l ↦ inr (λ own. let last = own.member in absurd (omega (arith, l, last)))
  | inr l ↦ inl (record { high = at.high; first = at.first; less = at.less; among = at.among; member = l })
]
first_or_not n m count (Fan level j) at = elim (cases_lt count j) [
  | inl l ↦ inr (λ own. let last = own.member in absurd (omega (arith, l, last)))
  | inr l ↦ inl (record { low = at.low; high = at.high; later = at.later; member = l })
]
