-- The search for the deciding level: what a tried level says, and that its result suffices.
use Rattle.std.proofs.Common.{◌≡◌, ◌⊎◌, inl, inr, ℕ, ◌<◌, ◌≤◌, ◌+◌, List, [], ◌∷◌, length, sym}
use Rattle.std.proofs.Common.{◌∙◌, subst, arith}
use Rattle.std.proofs.lemmas.Bool.{cases_lt}
use Rattle.std.proofs.Common.{◌++◌, Option, Some, None, IfSome, IfNone}
use Rattle.ov_ids.specs.Members.{Has}
use Rattle.ov_ids.proofs.Members.{ascends_distinct, has_append_left, has_append_right, has_append_cases}
use Rattle.ov_graph.specs.Links.{LinkGraph, IsGraph, IsGroup, AreAllLinked}
use Rattle.ov_fans.specs.Pieces.{level_of}
use Rattle.ov_fans.specs.declared.piece.Piece.{Piece}
use Rattle.ov_fans.specs.Theorems.{IsNoCut}
use Rattle.ov_fans.specs.declared.piece_result.Found.{Found}
use Rattle.ov_fans.specs.declared.piece_result.Found.TheVariants.{Linked as linked_found, Paths, Cut}
use Rattle.ov_fans.specs.declared.piece_result.Settled.{Settled}
use Rattle.ov_fans.proofs.PieceCuts.Decided.{decides}
use Rattle.ov_fans.proofs.PieceNets.Ranks.{fits}
use Rattle.ov_even.specs.Hauls.{IsInHauls, IsCleared, IsDone, AreRight, SufficeKeeping}
use Rattle.ov_even.specs.declared.worker_haul.Haul.{Haul}
use Rattle.ov_even.specs.declared.worker_haul.Keeping.{Keeping}
use Rattle.ov_even.specs.declared.worker_haul.Keeping.TheVariants.{EachPiece, CutsAlone}
use Rattle.ov_fans.specs.Group.{SettlerState}
use Rattle.ov_even.specs.Levels.{IsLevelGood, IsLevelDone, StopsAt, IsTried, SearchState, KeepingSearch}
use Rattle.ov_even.specs.Searching.{SearchGoesOn}
use Rattle.ov_even.specs.Code.Narrowing.{BoundsState, AreKept, HasCutWithin, IsCutOf, HasCutOf}
use Rattle.ov_even.proofs.EvenTest.Deciding.{done_good}
use Rattle.ov_even.proofs.EvenTest.Passing.{below_good}
use Rattle.ov_even.specs.Code.Cuts.{IsFirstCut, all_settled}
use Rattle.ov_even.proofs.AnalysisSteps.FirstCut.{among_all, in_hauls}
use Rattle.ov_even.proofs.PieceOrder.Comparing.{number_cases}

-- a group has at most as many members as the graph has nodes
pub members_few : (g : LinkGraph) (q : List ℕ) → IsGroup g q → length q ≤ length g.nodes
members_few g q group = fits g.nodes q (ascends_distinct q group.ascends) group.nodes

few_same : (xs : List ℕ) (a b : ℕ) → length xs < 2 → Has xs a → Has xs b → a ≡ b
few_same [] a b few h k = absurd h
few_same (x ∷ []) a b few h k = elim h [ inl d ↦ elim k [ inl e ↦ sym d ∙ e | inr k ↦ absurd k ] | inr h ↦ absurd h ]
few_same (x ∷ y ∷ xs) a b few h k = absurd (omega arith)

-- if two members are not linked, there are at least two nodes
pub two_nodes : (g : LinkGraph) (q : List ℕ) → IsGroup g q → ¬ AreAllLinked g q → 2 ≤ length g.nodes
two_nodes g q group apart = elim (cases_lt (length g.nodes) 2) [
  | inl few ↦ absurd (apart (λ a b h k n. absurd (n (few_same g.nodes a b few (group.nodes a h) (group.nodes b k)))))
  | inr many ↦ many
]

-- no piece has a cut, and so none of the level or of a lower one
pub no_cut_within : (hauls : List Haul) (level : ℕ) → IsFirstCut (all_settled hauls) None → ¬ HasCutWithin hauls level
no_cut_within hauls level none within = within.2 (none within.0 (among_all hauls within.0 within.1))

-- the first cut is of a higher level, and so are all others
pub first_behind : (hauls : List Haul) (level : ℕ) (s : Settled) → IsFirstCut (all_settled hauls) (Some s)
    → level < level_of s.piece → ¬ HasCutWithin hauls level
first_behind hauls level s first behind within =
    let low = within.3 in
    first.lowest within.0 (among_all hauls within.0 within.1) within.2 (inl (omega (arith, behind, low)))

-- the first cut is of the level or of a lower one
pub first_within : (hauls : List Haul) (level : ℕ) (s : Settled) (size : Option ℕ)
    → IsFirstCut (all_settled hauls) (Some s) → level_of s.piece ≤ level → IfSome size (IsCutOf s.found)
    → IfSome size (HasCutOf hauls level)
first_within hauls level s None first low of = tt
first_within hauls level s (Some n) first low of = (s, in_hauls hauls s first.there, of, low)

is_cut : (found : Found) (size : ℕ) → IsCutOf found size → ¬ IsNoCut found
is_cut linked_found size of none = of
is_cut (Paths paths) size of none = of
is_cut (Cut parting) size of none = none

-- a cut of some size is a cut
pub cut_within : (hauls : List Haul) (level size : ℕ) → HasCutOf hauls level size → HasCutWithin hauls level
cut_within hauls level size within = (within.0, within.1, is_cut within.0.found size within.2, within.3)

-- where no piece of a tried level or of a lower one has a cut, the level is done with
pub tried_done : (keeping : Keeping) (g : LinkGraph) (q : List ℕ) (hauls : List Haul) (level : ℕ)
    → IsTried keeping g q hauls level → ¬ HasCutWithin hauls level → IsLevelDone keeping g q hauls level
tried_done keeping g q hauls level tried none = elim tried [
  | inl done ↦ done
  | inr stop ↦
      let at = stop.1.of_level in
      absurd (none (stop.0, stop.1.there, stop.1.cut, omega (arith, at)))
]

-- where no piece of a tried level or of a lower one has a cut, the level is good
pub tried_good : (keeping : Keeping) (g : LinkGraph) (q : List ℕ) (hauls : List Haul) (level : ℕ) → IsGraph g
    → AreRight g q hauls → IsTried keeping g q hauls level → ¬ HasCutWithin hauls level → IsLevelGood g q level
tried_good keeping g q hauls level graph right tried none p at e =
    done_good keeping g q hauls p graph right (tried_done keeping g q hauls level tried none p at e)

-- where such a piece has a cut, the level is not done with
pub tried_stops : (keeping : Keeping) (g : LinkGraph) (q : List ℕ) (hauls : List Haul) (level : ℕ) → IsGraph g
    → IsGroup g q → AreRight g q hauls → level < length g.nodes → IsTried keeping g q hauls level
    → HasCutWithin hauls level → (s : Settled) × StopsAt keeping g q hauls level s
tried_stops keeping g q hauls level graph group right high tried within = elim tried [
  | inl done ↦
      let s = within.0 in
      let is = right s within.1 in
      let good = below_good g q level s.piece graph group high
      (λ p at e. done_good keeping g q hauls p graph right (done p at e)) is.0 within.3 in
      absurd (within.2 ((decides g q s graph is.1).0 good))
  | inr stop ↦ stop
]

-- what is in the hauls of two lists is in those of one
pub in_either : (kept hauls : List Haul) (s : Settled) → IsInHauls (kept ++ hauls) s
    → IsInHauls kept s ⊎ IsInHauls hauls s
in_either kept hauls s h = elim (has_append_cases kept hauls h.0 h.1) [
  | inl k ↦ inl (h.0, k, h.2)
  | inr k ↦ inr (h.0, k, h.2)
]

cleared_left : (g : LinkGraph) (q : List ℕ) (kept hauls : List Haul) (r : Piece) → IsCleared g q kept r
    → IsCleared g q (kept ++ hauls) r
cleared_left g q kept hauls r cleared = elim cleared [
  | inl l ↦ inl l
  | inr t ↦
      let b = t.1 in
      inr (t.0, (b.0, has_append_left kept hauls b.0 b.1, b.2), t.2, t.3)
]

cleared_right : (g : LinkGraph) (q : List ℕ) (kept hauls : List Haul) (r : Piece) → IsCleared g q hauls r
    → IsCleared g q (kept ++ hauls) r
cleared_right g q kept hauls r cleared = elim cleared [
  | inl l ↦ inl l
  | inr t ↦
      let b = t.1 in
      inr (t.0, (b.0, has_append_right kept hauls b.0 b.1, b.2), t.2, t.3)
]

-- what is done with in one of two lists is done with in both
done_left : (keeping : Keeping) (g : LinkGraph) (q : List ℕ) (kept hauls : List Haul) (r : Piece)
    → IsDone keeping g q kept r → IsDone keeping g q (kept ++ hauls) r
done_left EachPiece g q kept hauls r cleared = cleared_left g q kept hauls r cleared
done_left CutsAlone g q kept hauls r good = good

done_right : (keeping : Keeping) (g : LinkGraph) (q : List ℕ) (kept hauls : List Haul) (r : Piece)
    → IsDone keeping g q hauls r → IsDone keeping g q (kept ++ hauls) r
done_right EachPiece g q kept hauls r cleared = cleared_right g q kept hauls r cleared
done_right CutsAlone g q kept hauls r good = good

-- a level with a cut and the level below it, which is done with, suffice
pub suffices : (keeping : Keeping) (g : LinkGraph) (q : List ℕ) (low : ℕ) (kept hauls : List Haul) (s : Settled)
    → AreRight g q kept → IsLevelDone keeping g q kept low → AreRight g q hauls
    → StopsAt keeping g q hauls (low + 1) s → SufficeKeeping keeping g q (kept ++ hauls)
suffices keeping g q low kept hauls s kept_right done right stop =
    let at = stop.of_level in
    let there = stop.there in (
      (λ t h. elim (in_either kept hauls t h) [ inl k ↦ kept_right t k | inr k ↦ right t k ]),
      inr (
        s,
        record {
          there = (there.0, has_append_right kept hauls there.0 there.1, there.2);
          cut = stop.cut;
          before = λ r is first near. elim (number_cases (level_of r) (low + 1)) [
            | inl l ↦ done_left keeping g q kept hauls r (done r is (omega (arith, l, near, at)))
            | inr n ↦ elim n [
              | inl e ↦ done_right keeping g q kept hauls r (stop.before r is e first)
              | inr l ↦ absurd (elim first [
                | inl m ↦ omega (arith, m, l, at)
                | inr m ↦ let d = m.0 in omega (arith, d, l, at)
              ])
            ]
          ];
        },
      ),
    )

-- a tried level with a cut suffices, together with the level below it, which is done with
pub tried_suffices : (keeping : Keeping) (bounds : BoundsState) (kept hauls : List Haul) (level : ℕ)
    → IsGraph bounds.search.graph → IsGroup bounds.search.graph bounds.search.members
    → level < length bounds.search.graph.nodes → AreKept keeping bounds kept
    → AreRight bounds.search.graph bounds.search.members hauls
    → IsTried keeping bounds.search.graph bounds.search.members hauls level → HasCutWithin hauls level
    → level ≡ bounds.low + 1
    → SufficeKeeping keeping bounds.search.graph bounds.search.members (kept ++ hauls)
tried_suffices keeping bounds kept hauls level graph group below keeps right tried within next =
    let g = bounds.search.graph in
    let q = bounds.search.members in
    let stop = tried_stops keeping g q hauls level graph group right below tried within in
    suffices keeping g q bounds.low kept hauls stop.0 keeps.right keeps.done right
    (subst (λ (l : ℕ). StopsAt keeping g q hauls l stop.0) next stop.1)

-- the hauls of a level that is done with are kept when it becomes the lower bound
pub kept_raised : (keeping : Keeping) (bounds next : BoundsState) (hauls : List Haul)
    → AreRight bounds.search.graph bounds.search.members hauls
    → IsLevelDone keeping bounds.search.graph bounds.search.members hauls bounds.search.level
    → next.low ≡ bounds.search.level → SearchGoesOn bounds.search next.search → AreKept keeping next hauls
kept_raised keeping bounds next hauls right done low on =
    record { right = rw (on.graph, on.members) right; done = rw (low, on.graph, on.members) done }

-- the kept hauls are kept while the lower bound stays
pub kept_on : (keeping : Keeping) (bounds next : BoundsState) (kept : List Haul) → AreKept keeping bounds kept
    → next.low ≡ bounds.low → SearchGoesOn bounds.search next.search → AreKept keeping next kept
kept_on keeping bounds next kept keeps low on =
    record { right = rw (on.graph, on.members) keeps.right; done = rw (low, on.graph, on.members) keeps.done }

-- the haul of a settler for the graph and the group of a search is right for that search
pub right_of_one : (settler : SettlerState) (g : LinkGraph) (q : List ℕ) (s : SearchState) (haul : Haul)
    (hauls : List Haul) → settler ≡ record { graph = g; members = q } → s.graph ≡ g → s.members ≡ q → hauls ≡ haul ∷ []
    → AreRight settler.graph settler.members (haul ∷ []) → AreRight s.graph s.members hauls
right_of_one settler g q s haul hauls is d e f right =
    rw (d, e, f) (subst (λ (x : SettlerState). AreRight x.graph x.members (haul ∷ [])) is right)

-- a level that it tried is one that the search had tried
pub tried_of_one : (keeping : Keeping) (settler : SettlerState) (g : LinkGraph) (q : List ℕ) (s : KeepingSearch)
    (haul : Haul) (hauls : List Haul) (level : ℕ) → settler ≡ record { graph = g; members = q } → s.search.graph ≡ g
    → s.search.members ≡ q → s.keeping ≡ keeping → hauls ≡ haul ∷ [] → level ≡ s.search.level
    → IsTried keeping settler.graph settler.members (haul ∷ []) level
    → IsTried s.keeping s.search.graph s.search.members hauls s.search.level
tried_of_one keeping settler g q s haul hauls level is d e k f same tried =
    rw (d, e, k, f, ← same)
    (subst (λ (x : SettlerState). IsTried keeping x.graph x.members (haul ∷ []) level) is tried)

-- a fact that holds anyway, where there is none
pub if_none : {T : Type 0} (P : Type 0) (r : Option T) → P → IfNone r P
if_none P None p = p
if_none P (Some x) p = tt
