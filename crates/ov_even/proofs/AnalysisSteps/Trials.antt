-- What is known of a level while its pieces are settled one after another.
use Rattle.std.proofs.Common.{◌≡◌, inl, inr, ℕ, ◌<◌, ◌≤◌, List, [], ◌∷◌, ◌++◌, length, refl, sym, ◌∙◌, subst, ap}
use Rattle.std.proofs.Common.{arith, append_assoc, append-nil, ◌^◌}
use Rattle.ov_ids.specs.Members.{Has, Ordered}
use Rattle.ov_ids.proofs.Members.{has_append_left, has_append_right, has_append_cases}
use Rattle.ov_graph.specs.Links.{LinkGraph, IsGraph, most_of_any_graph}
use Rattle.ov_fans.specs.Pieces.{IsPiece, IsGood, IsLinkedPair, level_of}
use Rattle.std.proofs.lemmas.Bool.{cases_lt}
use Rattle.ov_even.proofs.PieceNumbers.LevelPlaces.{length_level_low, length_level_high}
use Rattle.ov_even.proofs.PieceNumbers.Pairs.{pairs_few}
use Rattle.ov_fans.specs.declared.piece_result.Found.TheVariants.{Linked}
use Rattle.ov_fans.specs.Cuts.{IsRight, IsFoundFor}
use Rattle.ov_fans.specs.Theorems.{IsNoCut}
use Rattle.ov_fans.specs.declared.piece.Piece.{Piece}
use Rattle.ov_fans.specs.declared.piece_result.Settled.{Settled}
use Rattle.ov_fans.proofs.PieceCuts.Decided.{decides}
use Rattle.ov_even.specs.Order.{ComesBefore}
use Rattle.ov_even.specs.Code.Levels.{pieces_of_level}
use Rattle.ov_even.specs.Code.Trying.{AreSettledRight, IsDoneBy}
use Rattle.ov_even.specs.Hauls.{AreRight, IsDone}
use Rattle.ov_even.specs.Levels.{IsLevelDone, StopsAt}
use Rattle.ov_even.specs.declared.worker_haul.Haul.{Haul}
use Rattle.ov_even.specs.declared.worker_haul.Keeping.{Keeping}
use Rattle.ov_even.specs.declared.worker_haul.Keeping.TheVariants.{EachPiece, CutsAlone}
use Rattle.ov_even.proofs.PieceOrder.Comparing.{before_once}
use Rattle.ov_even.proofs.PieceOrder.Ordering.{not_both_before}
use Rattle.ov_even.proofs.PieceOrder.Columns.{ordered_columns}
use Rattle.ov_cert.proofs.EntryOrder.Columns.{ordered_across}
use Rattle.ov_even.proofs.PieceNumbers.AllLevels.{level_has, piece_has}

-- a piece of the level is in the list of the level, and conversely
pub listed : (g : LinkGraph) (q : List ℕ) (level : ℕ) (r : Piece) → IsPiece g q r → level_of r ≡ level
    → Has (pieces_of_level (length q) level) r
listed g q level r at e = subst (λ (l : ℕ). Has (pieces_of_level (length q) l) r) e
    (piece_has (length g.nodes) (length q) r (at))

pub unlisted : (g : LinkGraph) (q : List ℕ) (level : ℕ) (r : Piece) → 1 ≤ level → level < length g.nodes
    → Has (pieces_of_level (length q) level) r → IsPiece g q r × (level_of r ≡ level)
unlisted g q level r low high h =
    let m = (level_has (length g.nodes) (length q) level r low high).0 h in (m.0, m.1)

-- the next piece of the level, after those that were yielded
pub next_listed : (pieces before rest : List Piece) (p : Piece) → pieces ≡ before ++ p ∷ rest → Has pieces p
next_listed pieces before rest p e = subst (λ l. Has l p) (sym e) (has_append_right before (p ∷ rest) p (inl refl))

-- a piece stays done with after one more is kept
pub done_more : (keeping : Keeping) (g : LinkGraph) (q : List ℕ) (pieces : List Settled) (s : Settled) (r : Piece)
    → IsDoneBy keeping g q pieces r → IsDoneBy keeping g q (pieces ++ s ∷ []) r
done_more EachPiece g q pieces s r cleared = elim cleared [
  | inl l ↦ inl l
  | inr t ↦ inr (t.0, has_append_left pieces (s ∷ []) t.0 t.1, t.2, t.3)
]
done_more CutsAlone g q pieces s r good = good

-- a piece without a cut that is kept is done with
pub done_here : (keeping : Keeping) (g : LinkGraph) (q : List ℕ) (pieces : List Settled) (s : Settled) → IsGraph g
    → IsRight g q s → IsNoCut s.found → IsDoneBy keeping g q (pieces ++ s ∷ []) s.piece
done_here EachPiece g q pieces s graph right none =
    inr (s, has_append_right pieces (s ∷ []) s (inl refl), refl, none)
done_here CutsAlone g q pieces s graph right none = (decides g q s graph right).1 none

-- a linked pair is done with
done_linked : (keeping : Keeping) (g : LinkGraph) (q : List ℕ) (pieces : List Settled) (p : Piece)
    → IsLinkedPair g q p → IsDoneBy keeping g q pieces p
done_linked EachPiece g q pieces p linked = inl linked
done_linked CutsAlone g q pieces p linked = inl linked

-- each of these pieces is done with
abbrev pub AreDone : Keeping → LinkGraph → List ℕ → List Settled → List Piece → Type 0
AreDone keeping g q pieces seen = (r : Piece) → Has seen r → IsDoneBy keeping g q pieces r

pub all_done_more : (keeping : Keeping) (g : LinkGraph) (q : List ℕ) (pieces : List Settled) (seen : List Piece)
    (p : Piece) → AreDone keeping g q pieces seen → IsDoneBy keeping g q pieces p
    → AreDone keeping g q pieces (seen ++ p ∷ [])
all_done_more keeping g q pieces seen p done here r h = elim (has_append_cases seen (p ∷ []) r h) [
  | inl k ↦ done r k
  | inr k ↦ elim k [ inl e ↦ subst (IsDoneBy keeping g q pieces) e here | inr k ↦ absurd k ]
]

pub all_done_kept : (keeping : Keeping) (g : LinkGraph) (q : List ℕ) (pieces : List Settled) (s : Settled)
    (seen : List Piece) → AreDone keeping g q pieces seen → AreDone keeping g q (pieces ++ s ∷ []) seen
all_done_kept keeping g q pieces s seen done r h = done_more keeping g q pieces s r (done r h)

pub right_more : (g : LinkGraph) (q : List ℕ) (pieces : List Settled) (s : Settled) → AreSettledRight g q pieces
    → IsPiece g q s.piece → IsRight g q s → AreSettledRight g q (pieces ++ s ∷ [])
right_more g q pieces s right at is t h = elim (has_append_cases pieces (s ∷ []) t h) [
  | inl k ↦ right t k
  | inr k ↦ elim k [
    | inl e ↦ subst (λ (x : Settled). IsPiece g q x.piece × IsRight g q x) e (at, is)
    | inr k ↦ absurd k
  ]
]

-- the pieces of a haul are those of the hauls, if it is the only haul
pub alone_right : (g : LinkGraph) (q : List ℕ) (haul : Haul) → AreSettledRight g q haul.pieces.items
    → AreRight g q (haul ∷ [])
alone_right g q haul right s h = elim h.1 [
  | inl e ↦ right s (subst (λ (x : Haul). Has x.pieces.items s) (sym e) h.2)
  | inr k ↦ absurd k
]

pub alone_done : (keeping : Keeping) (g : LinkGraph) (q : List ℕ) (haul : Haul) (r : Piece)
    → IsDoneBy keeping g q haul.pieces.items r → IsDone keeping g q (haul ∷ []) r
alone_done EachPiece g q haul r cleared = elim cleared [
  | inl l ↦ inl l
  | inr t ↦ inr (t.0, (haul, inl refl, t.1), t.2, t.3)
]
alone_done CutsAlone g q haul r good = good

-- a piece of the level that comes before the next one is among those that were yielded
pub before_seen : (g : LinkGraph) (q : List ℕ) (level : ℕ) (seen rest : List Piece) (p r : Piece)
    → pieces_of_level (length q) level ≡ seen ++ p ∷ rest → IsPiece g q r → level_of r ≡ level → ComesBefore r p
    → Has seen r
before_seen g q level seen rest p r e is same first =
    let order : Ordered ComesBefore (seen ++ p ∷ rest) =
    subst (Ordered ComesBefore) e (ordered_columns level 0 (length q)) in
    let h : Has (seen ++ p ∷ rest) r = subst (λ l. Has l r) e (listed g q level r is same) in
    elim (has_append_cases seen (p ∷ rest) r h) [
      | inl k ↦ k
      | inr k ↦ absurd (elim k [
        | inl d ↦ before_once p (subst (λ x. ComesBefore x p) (sym d) first)
        | inr m ↦ not_both_before r p first
            (ordered_across ComesBefore (seen ++ p ∷ []) rest p r
            (subst (Ordered ComesBefore) (sym (append_assoc seen (p ∷ []) rest)) order)
            (has_append_right seen (p ∷ []) p (inl refl)) m)
      ])
    ]

-- a piece has a cut, and the pieces before it in the level are done with
pub stops : (keeping : Keeping) (g : LinkGraph) (q : List ℕ) (level : ℕ) (pieces : List Settled) (haul : Haul)
    (s : Settled) (seen rest : List Piece) → haul.pieces.items ≡ pieces ++ s ∷ []
    → pieces_of_level (length q) level ≡ seen ++ s.piece ∷ rest → level_of s.piece ≡ level → ¬ IsNoCut s.found
    → AreDone keeping g q pieces seen → StopsAt keeping g q (haul ∷ []) level s
stops keeping g q level pieces haul s seen rest put e at cut done = record {
  there = (haul, inl refl, subst (λ l. Has l s) (sym put) (has_append_right pieces (s ∷ []) s (inl refl)));
  of_level = at;
  cut = cut;
  before = λ r is same first.
      alone_done keeping g q haul r (subst (λ l. IsDoneBy keeping g q l r) (sym put)
      (done_more keeping g q pieces s r (done r (before_seen g q level seen rest s.piece r e is same first))));
}

-- no piece of the level is left
pub level_done : (keeping : Keeping) (g : LinkGraph) (q : List ℕ) (level : ℕ) (haul : Haul) (seen : List Piece)
    → pieces_of_level (length q) level ≡ seen → AreDone keeping g q haul.pieces.items seen
    → IsLevelDone keeping g q (haul ∷ []) level
level_done keeping g q level haul seen e done r is same =
    alone_done keeping g q haul r (done r (subst (λ l. Has l r) e (listed g q level r is same)))

-- the state of a level: the pieces yielded so far are done with, and the others are still to come
pub record IsUnderWay (keeping : Keeping) (g : LinkGraph) (q : List ℕ) (level : ℕ) (pieces : List Settled)
    (seen coming : List Piece) : Type 0 where
  pub listed : pieces_of_level (length q) level ≡ seen ++ coming
  pub right : AreSettledRight g q pieces
  pub done : AreDone keeping g q pieces seen

pub begun : (keeping : Keeping) (g : LinkGraph) (q : List ℕ) (level : ℕ) (pieces : List Settled)
    (seen coming : List Piece) → pieces ≡ [] → pieces_of_level (length q) level ≡ seen ++ coming
    → AreDone keeping g q [] seen → IsUnderWay keeping g q level pieces (seen ++ []) coming
begun keeping g q level pieces seen coming none all done = record {
  listed = all ∙ ap (λ l. l ++ coming) (sym (append-nil seen));
  right = λ s h. absurd (subst (λ l. Has l s) none h);
  done = subst (λ l. AreDone keeping g q l (seen ++ [])) (sym none)
      (subst (AreDone keeping g q []) (sym (append-nil seen)) done);
}

-- the pieces of a level for the first members, which were done with before, and those that were yielded
abbrev pub seen_from : ℕ → ℕ → List Piece → List Piece
seen_from done level yielded = pieces_of_level done level ++ yielded

-- one more piece, of those that come behind others which were done with before
pub behind : (keeping : Keeping) (g : LinkGraph) (q : List ℕ) (level : ℕ) (pieces : List Settled)
    (first seen rest : List Piece) (p : Piece) → IsUnderWay keeping g q level pieces ((first ++ seen) ++ p ∷ []) rest
    → IsUnderWay keeping g q level pieces (first ++ (seen ++ p ∷ [])) rest
behind keeping g q level pieces first seen rest p way =
    subst (λ (l : List Piece). IsUnderWay keeping g q level pieces l rest) (append_assoc first seen (p ∷ [])) way

pub next_is : (keeping : Keeping) (g : LinkGraph) (q : List ℕ) (level : ℕ) (pieces : List Settled)
    (seen coming rest : List Piece) (p : Piece) → 1 ≤ level → level < length g.nodes
    → IsUnderWay keeping g q level pieces seen coming → coming ≡ p ∷ rest → IsPiece g q p × (level_of p ≡ level)
next_is keeping g q level pieces seen coming rest p low high way e = unlisted g q level p low high
    (next_listed (pieces_of_level (length q) level) seen rest p (way.listed ∙ ap (λ l. seen ++ l) e))

turned : (seen coming rest : List Piece) (p : Piece) → coming ≡ p ∷ rest → seen ++ coming ≡ (seen ++ p ∷ []) ++ rest
turned seen coming rest p e = ap (λ l. seen ++ l) e ∙ sym (append_assoc seen (p ∷ []) rest)

-- one more piece, of which nothing is kept
pub more_done : (keeping : Keeping) (g : LinkGraph) (q : List ℕ) (level : ℕ) (pieces : List Settled)
    (seen coming rest : List Piece) (p : Piece) → IsUnderWay keeping g q level pieces seen coming → coming ≡ p ∷ rest
    → IsDoneBy keeping g q pieces p → IsUnderWay keeping g q level pieces (seen ++ p ∷ []) rest
more_done keeping g q level pieces seen coming rest p way e here = record {
  listed = way.listed ∙ turned seen coming rest p e;
  right = way.right;
  done = all_done_more keeping g q pieces seen p way.done here;
}

pub more_linked : (keeping : Keeping) (g : LinkGraph) (q : List ℕ) (level : ℕ) (pieces : List Settled)
    (seen coming rest : List Piece) (p : Piece) → IsUnderWay keeping g q level pieces seen coming → coming ≡ p ∷ rest
    → IsLinkedPair g q p → IsUnderWay keeping g q level pieces (seen ++ p ∷ []) rest
more_linked keeping g q level pieces seen coming rest p way e linked =
    more_done keeping g q level pieces seen coming rest p way e (done_linked keeping g q pieces p linked)

pub more_good : (keeping : Keeping) (g : LinkGraph) (q : List ℕ) (level : ℕ) (pieces : List Settled)
    (seen coming rest : List Piece) (p : Piece) → IsUnderWay keeping g q level pieces seen coming → coming ≡ p ∷ rest
    → (keeping ≡ CutsAlone) × IsGood g q p → IsUnderWay keeping g q level pieces (seen ++ p ∷ []) rest
more_good keeping g q level pieces seen coming rest p way e here =
    more_done keeping g q level pieces seen coming rest p way e
    (subst (λ (k : Keeping). IsDoneBy k g q pieces p) (sym here.0) here.1)

pub more_kept : (keeping : Keeping) (g : LinkGraph) (q : List ℕ) (level : ℕ) (pieces new : List Settled)
    (seen coming rest : List Piece) (p : Piece) (s : Settled) → IsUnderWay keeping g q level pieces seen coming
    → coming ≡ p ∷ rest → s.piece ≡ p → IsGraph g → IsPiece g q p → IsRight g q s → IsNoCut s.found
    → new ≡ pieces ++ s ∷ [] → IsUnderWay keeping g q level new (seen ++ p ∷ []) rest
more_kept keeping g q level pieces new seen coming rest p s way e same graph at right none put = record {
  listed = way.listed ∙ turned seen coming rest p e;
  right = subst (AreSettledRight g q) (sym put)
      (right_more g q pieces s way.right (subst (IsPiece g q) (sym same) at) right);
  done = subst (λ l. AreDone keeping g q l (seen ++ p ∷ [])) (sym put)
      (all_done_more keeping g q (pieces ++ s ∷ []) seen p (all_done_kept keeping g q pieces s seen way.done)
      (subst (IsDoneBy keeping g q (pieces ++ s ∷ [])) same (done_here keeping g q pieces s graph right none)));
}

pub more_right : (keeping : Keeping) (g : LinkGraph) (q : List ℕ) (level : ℕ) (pieces new : List Settled)
    (seen coming : List Piece) (p : Piece) (s : Settled) → IsUnderWay keeping g q level pieces seen coming
    → s.piece ≡ p → IsPiece g q p → IsRight g q s → new ≡ pieces ++ s ∷ [] → AreSettledRight g q new
more_right keeping g q level pieces new seen coming p s way same at right put = subst (AreSettledRight g q) (sym put)
    (right_more g q pieces s way.right (subst (IsPiece g q) (sym same) at) right)

pub stopped : (keeping : Keeping) (g : LinkGraph) (q : List ℕ) (level : ℕ) (pieces : List Settled) (haul : Haul)
    (seen coming rest : List Piece) (p : Piece) (s : Settled) → IsUnderWay keeping g q level pieces seen coming
    → coming ≡ p ∷ rest → s.piece ≡ p → level_of p ≡ level → ¬ IsNoCut s.found
    → haul.pieces.items ≡ pieces ++ s ∷ [] → StopsAt keeping g q (haul ∷ []) level s
stopped keeping g q level pieces haul seen coming rest p s way e same at cut put =
    stops keeping g q level pieces haul s seen rest put
    (way.listed ∙ ap (λ l. seen ++ l) e ∙ ap (λ x. seen ++ x ∷ rest) (sym same)) (ap level_of same ∙ at) cut
    way.done

pub ended : (keeping : Keeping) (g : LinkGraph) (q : List ℕ) (level : ℕ) (haul : Haul) (seen coming : List Piece)
    → IsUnderWay keeping g q level haul.pieces.items seen coming → coming ≡ []
    → IsLevelDone keeping g q (haul ∷ []) level
ended keeping g q level haul seen coming way e = level_done keeping g q level haul seen
    (way.listed ∙ ap (λ l. seen ++ l) e ∙ append-nil seen) way.done

pub linked_right : (g : LinkGraph) (q : List ℕ) (s : Settled) (p : Piece) → IsRight g q s → s.found ≡ Linked
    → s.piece ≡ p → IsLinkedPair g q p
linked_right g q s p right e same =
    subst (IsLinkedPair g q) same (subst (IsFoundFor g q s.piece) e right)

-- a level of a group within the limit has fewer than 2^30 pieces
pub level_few : (m level : ℕ) → m ≤ most_of_any_graph → length (pieces_of_level m level) < 2 ^ 30
level_few m level most = elim (cases_lt level m) [
  | inl l ↦
      let e = length_level_high m level (omega (arith, l)) in
      let few = pairs_few level (omega (arith, l, most)) in
      omega (arith, e, few, most)
  | inr l ↦
      let e = length_level_low m level l in
      let few = pairs_few m (omega (arith, most)) in
      omega (arith, e, few)
]
