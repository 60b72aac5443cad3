-- The hauls of the workers, and the certificate that is made from them.
use Rattle.std.proofs.Common.{◌≡◌, ◌⊎◌, inl, inr, ℕ, ◌<◌, ◌+◌, ◌-◌, List, length, slice_get, Option, Some, None}
use Rattle.std.proofs.Common.{refl, sym, ◌∙◌, subst, ap, arith, Box, Global, Result, Ok, Err, IfErr, IfNone}
use Rattle.ov_ids.specs.FaultOrder.{IsRefusedBy}
use Rattle.ov_graph.specs.Links.{LinkGraph, HasNode, IsGraph, IsGroup, AreAllLinked}
use Rattle.ov_fans.specs.Pieces.{IsPiece, IsLinkedPair, level_of}
use Rattle.ov_fans.specs.Cuts.{IsRight, IsFoundFor, AreRightPaths}
use Rattle.ov_fans.specs.Theorems.{IsNoCut}
use Rattle.ov_fans.specs.declared.piece.Piece.{Piece}
use Rattle.ov_fans.specs.declared.piece_result.Parting.{Parting}
use Rattle.ov_fans.specs.declared.piece_result.Found.{Found}
use Rattle.ov_fans.specs.declared.piece_result.Found.TheVariants.{Linked, Paths, Cut}
use Rattle.ov_fans.specs.declared.piece_result.Settled.{Settled}
use Rattle.ov_fans.proofs.PieceCuts.Decided.{decides}
use Rattle.std.proofs.Common.{zero, suc, eqb, false}
use Rattle.ov_cert.specs.declared.cert.Cert.{Cert}
use Rattle.ov_cert.specs.declared.cert.Split.{Split}
use Rattle.ov_even.specs.Answer.{NamesParting, NamesFirstCut}
use Rattle.ov_even.specs.declared.fault.AnalyseFault.{AnalyseFault}
use Rattle.ov_even.specs.declared.fault.AnalyseFault.TheVariants.{OutOfMemory}
use Rattle.ov_even.specs.Faults.{GroupJudged}
use Rattle.ov_even.specs.First.{IsFirst}
use Rattle.ov_even.specs.Hauls.{AreRight, Decides, Suffice, SufficeForOutline}
use Rattle.ov_even.specs.declared.worker_haul.Haul.{Haul}
use Rattle.ov_even.specs.declared.worker_haul.Keeping.{Keeping}
use Rattle.ov_even.specs.declared.worker_haul.Keeping.TheVariants.{EachPiece}
use Rattle.ov_even.specs.Code.Levels.{pieces_of_level}
use Rattle.ov_even.specs.Code.Slots.{StandsAt, AreSlotsOf, HaveSlots, ArePiecesOf}
use Rattle.ov_even.specs.Levels.{IsLevelDone}
use Rattle.ov_even.specs.Code.Cuts.{IsLowestCut, IsFirstCut, IsDeciding, all_settled}
use Rattle.ov_even.proofs.PieceOrder.PieceLevels.{level_low, level_high}
use Rattle.ov_even.proofs.PieceOrder.Ordering.{one_comes_before}
use Rattle.ov_even.proofs.AnalysisSteps.FirstCut.{in_hauls, among_all}
use Rattle.ov_even.proofs.AnalysisSteps.Narrowing.{members_few}
use Rattle.ov_even.proofs.EvenTest.Deciding.{decides_first}

pub pieces_in : (g : LinkGraph) (q : List ℕ) (hauls : List Haul) → AreRight g q hauls
    → ArePiecesOf (length q) (all_settled hauls)
pieces_in g q hauls right s h =
    (length g.nodes, (right s (in_hauls hauls s h)).0)

-- a right result without a cut is a linked pair or paths
pub paths_or_linked : (g : LinkGraph) (q : List ℕ) (p : Piece) (found : Found) → IsFoundFor g q p found → IsNoCut found
    → IsLinkedPair g q p ⊎ ((paths : List (List ℕ)) × (found ≡ Paths paths))
paths_or_linked g q p Linked right none = inl right
paths_or_linked g q p (Paths paths) right none = inr (paths, refl)
paths_or_linked g q p (Cut parting) right none = absurd none

right_paths : (g : LinkGraph) (q : List ℕ) (s : Settled) (paths : List (List ℕ)) → IsRight g q s → s.found ≡ Paths paths
    → AreRightPaths g q s.piece paths
right_paths g q s paths right e = (subst (IsFoundFor g q s.piece) e right).1

some_is : {X : Type 0} (x y : X) → Some x ≡ Some y → x ≡ y
some_is x y e = cc

pub have_slots : (g : LinkGraph) (q : List ℕ) (level : ℕ) (hauls : List Haul) (slots : List (Option (List (List ℕ))))
    → AreRight g q hauls → IsLevelDone EachPiece g q hauls level → AreSlotsOf (length q) level (all_settled hauls) slots
    → HaveSlots g q level slots
have_slots g q level hauls slots right cleared are p place at same apart stands = elim (cleared p at same) [
  | inl l ↦ absurd (apart l)
  | inr t ↦
      let s = t.0 in
      let here : IsRight g q s = (right s t.1).1 in
      elim (paths_or_linked g q s.piece s.found here t.3) [
        | inl l ↦ absurd (apart (subst (IsLinkedPair g q) t.2 l))
        | inr f ↦
            let filled = are.all s f.0 place (among_all hauls s t.1) (ap level_of t.2 ∙ same) f.1
            (subst (λ (r : Piece). StandsAt (length q) r place) (sym t.2) stands) in
            let u = are.from place filled.0 filled.1 in
            let alike : u.0.piece ≡ p = some_is u.0.piece p (sym u.3 ∙ ap (λ (l : ℕ).
            slice_get (pieces_of_level (length q) l) place) (u.2 ∙ sym same) ∙ stands) in (
              filled.0,
              filled.1,
              subst (λ (r : Piece). AreRightPaths g q r filled.0) alike
                  (right_paths g q u.0 filled.0 (right u.0 (in_hauls hauls u.0 u.1)).1 u.4),
            )
      ]
]

-- the first cut of hauls that suffice is that of the deciding piece
same_first : (keeping : Keeping) (g : LinkGraph) (q : List ℕ) (hauls : List Haul) (s t : Settled) → IsGraph g
    → IsGroup g q → AreRight g q hauls → Decides keeping g q hauls t → IsLowestCut (all_settled hauls) s
    → s.piece ≡ t.piece
same_first keeping g q hauls s t graph group right decided low =
    let first = decides_first keeping g q hauls t graph group right decided in
    let there = in_hauls hauls s low.there in
    let is = right s there in
    elim (one_comes_before s.piece t.piece) [
      | inl e ↦ e
      | inr n ↦ elim n [
        | inl before ↦ absurd (low.cut ((decides g q s graph is.1).0 (first.before s.piece is.0 before)))
        | inr behind ↦ absurd (low.lowest t (among_all hauls t decided.there) decided.cut behind)
      ]
    ]

pub deciding : (g : LinkGraph) (q : List ℕ) (hauls : List Haul) (s : Settled) → IsGraph g → IsGroup g q
    → ¬ AreAllLinked g q → SufficeForOutline g q hauls → IsLowestCut (all_settled hauls) s → IsDeciding g q s
deciding g q hauls s graph group apart suffice low = elim suffice.1.1 [
  | inl all ↦ absurd (apart all)
  | inr d ↦
      let keeping = suffice.0 in
      let t = d.0 in
      let right = suffice.1.0 in
      let e : s.piece ≡ t.piece = same_first keeping g q hauls s t graph group right d.1 low in record {
        first = subst (IsFirst g q) (sym e) (decides_first keeping g q hauls t graph group right d.1);
        right = (right s (in_hauls hauls s low.there)).1;
        cut = low.cut;
      }
]

-- the level below that of the deciding piece is cleared
pub cleared_under : (g : LinkGraph) (q : List ℕ) (hauls : List Haul) (s : Settled) → IsGraph g → IsGroup g q
    → ¬ AreAllLinked g q → Suffice g q hauls → IsLowestCut (all_settled hauls) s
    → IsLevelDone EachPiece g q hauls (level_of s.piece - 1)
cleared_under g q hauls s graph group apart suffice low r at same = elim suffice.1 [
  | inl all ↦ absurd (apart all)
  | inr d ↦
      let right = suffice.0 in
      let e = same_first EachPiece g q hauls s d.0 graph group right d.1 low in
      let least = level_low g q s.piece (right s (in_hauls hauls s low.there)).0 in
      let level : level_of s.piece ≡ level_of d.0.piece = ap level_of e in
      d.1.before r at (inl (omega (arith, same, least, level))) (omega (arith, same, least, level))
]

pub some_cut : (g : LinkGraph) (q : List ℕ) (hauls : List Haul) → ¬ AreAllLinked g q → SufficeForOutline g q hauls
    → ¬ IsFirstCut (all_settled hauls) None
some_cut g q hauls apart suffice none = elim suffice.1.1 [
  | inl all ↦ apart all
  | inr d ↦ d.1.cut (none d.0 (among_all hauls d.0 d.1.there))
]

-- what holds if there is none holds if there is not some one
pub none_given : {T : Type 0} (r : Option T) (P : Type 0) → IfNone r P → ((x : T) → ¬ (r ≡ Some x)) → P
none_given None P holds not = holds
none_given (Some x) P holds not = absurd (not x refl)

-- where no certificate says that all members are linked, the first cut is that of the deciding piece, and there is one
pub deciding_first : (g : LinkGraph) (q : List ℕ) (hauls : List Haul) (s : Settled) (linked : Option Cert) → IsGraph g
    → IsGroup g q → SufficeForOutline g q hauls → IfNone linked (¬ AreAllLinked g q)
    → ((c : Cert) → ¬ (linked ≡ Some c)) → IsLowestCut (all_settled hauls) s → IsDeciding g q s
deciding_first g q hauls s linked graph group suffice none not low =
    deciding g q hauls s graph group (none_given linked (¬ AreAllLinked g q) none not) suffice low

pub some_first : (g : LinkGraph) (q : List ℕ) (hauls : List Haul) (linked : Option Cert) → SufficeForOutline g q hauls
    → IfNone linked (¬ AreAllLinked g q) → ((c : Cert) → ¬ (linked ≡ Some c))
    → ¬ IsFirstCut (all_settled hauls) None
some_first g q hauls linked suffice none not =
    some_cut g q hauls (none_given linked (¬ AreAllLinked g q) none not) suffice

-- a list that is not empty has an item
pub some_node : (n : ℕ) → eqb n 0 ≡ false → 0 < n
some_node zero e = absurd (cc)
some_node (suc n) e = omega arith

-- the certificate names the cut of the deciding piece
pub names_cut : (g : LinkGraph) (q : List ℕ) (s : Settled) (parting : Box Parting Global) (c : Split)
    → IsDeciding g q s → s.found ≡ Cut parting → level_of s.piece ≡ c.k + 1 → NamesParting c parting.value
    → NamesFirstCut g q c
names_cut g q s parting c d e level names = record {
  piece = s.piece;
  first = d.first;
  level = level;
  parting = parting.value;
  parted = subst (IsFoundFor g q s.piece) e d.right;
  names = names;
}

-- the level below that of a piece is 0 or a level
pub level_under : (g : LinkGraph) (q : List ℕ) (p : Piece) (k : ℕ) → IsPiece g q p → k ≡ level_of p
    → (k - 1 < length g.nodes) × (level_of p ≡ (k - 1) + 1)
level_under g q p k at e =
    let low = level_low g q p at in
    let high = level_high g q p at in
    (omega (arith, low, high, e), omega (arith, low, e))

pub whole_group : (g : LinkGraph) → IsGraph g → 0 < length g.nodes → IsGroup g g.nodes
whole_group g graph some = record { some_member = some; ascends = graph.nodes_ascend; nodes = λ x h. h }

-- for a group nothing is refused: it has a member, so there is a node
pub none_refused : (g : LinkGraph) (q : List ℕ) → IsGroup g q → GroupJudged g q None
none_refused g q group =
    let few = members_few g q group in
    let some = group.some_member in
    let node : HasNode g = omega (arith, few, some) in
    inl (node, inl (group, refl))

-- so it is refused only if memory runs out
pub refused_by_memory : {T : Type 0} (g : LinkGraph) (q : List ℕ) (result : Result T AnalyseFault) → IsGroup g q
    → IfErr result (λ fault. fault ≡ OutOfMemory) → IfErr result (IsRefusedBy OutOfMemory (GroupJudged g q))
refused_by_memory g q (Ok value) group memory = tt
refused_by_memory g q (Err fault) group memory = inr (memory, none_refused g q group)
