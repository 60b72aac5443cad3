-- The pieces of a level are examined in order, and those that are no linked pairs are listed.
use Rattle.std.proofs.Common.{◌≡◌, inl, inr, ℕ, ◌<◌, ◌≤◌, List, [], ◌∷◌, ◌++◌, length, refl, sym, ◌∙◌, subst, ap}
use Rattle.std.proofs.Common.{append_assoc, map, append-nil}
use Rattle.std.proofs.lemmas.List.{map-append}
use Rattle.ov_ids.specs.Members.{Has, Ordered}
use Rattle.ov_ids.proofs.Members.{has_append_left, has_append_right, has_append_cases, all_from_members}
use Rattle.ov_graph.specs.Links.{LinkGraph}
use Rattle.ov_fans.specs.Pieces.{IsPiece, IsLinkedPair, level_of}
use Rattle.ov_fans.specs.declared.piece.Piece.{Piece}
use Rattle.ov_cert.proofs.EntryOrder.Columns.{ordered_append, ordered_across}
use Rattle.ov_even.specs.Order.{ComesBefore}
use Rattle.ov_even.specs.Naming.{IsUnlinked, AreUnlinkedPieces}
use Rattle.ov_even.specs.Code.Levels.{pieces_of_level}
use Rattle.ov_even.proofs.PieceOrder.Columns.{ordered_columns}
use Rattle.ov_even.proofs.AnalysisSteps.Trials.{listed, unlisted, next_listed}

-- the list is in order, and has exactly what these pieces name
pub record AreNamed {X : Type 0} (R : X → X → Type 0) (Names : Piece → X → Type 0) (seen : List Piece) (names : List X)
    : Type 0 where
  pub order : Ordered R names
  pub sound : (x : X) → Has names x → (p : Piece) × Has seen p × Names p x
  pub complete : (p : Piece) (x : X) → Has seen p → Names p x → Has names x

pub named_none : {X : Type 0} (R : X → X → Type 0) (Names : Piece → X → Type 0) (names : List X) → names ≡ []
    → AreNamed R Names [] names
named_none R Names names e = record {
  order = subst (Ordered R) (sym e) tt;
  sound = λ x h. absurd (subst (λ l. Has l x) e h);
  complete = λ p x h n. absurd h;
}

-- one more piece, which names nothing
pub named_pass : {X : Type 0} (R : X → X → Type 0) (Names : Piece → X → Type 0) (seen : List Piece) (names : List X)
    (p : Piece) → AreNamed R Names seen names → ((x : X) → ¬ Names p x) → AreNamed R Names (seen ++ p ∷ []) names
named_pass R Names seen names p are none = record {
  order = are.order;
  sound = λ x h. let r = are.sound x h in (r.0, has_append_left seen (p ∷ []) r.0 r.1, r.2);
  complete = λ r x h n. elim (has_append_cases seen (p ∷ []) r h) [
    | inl k ↦ are.complete r x k n
    | inr k ↦ elim k [ inl e ↦ absurd (none x (subst (λ y. Names y x) (sym e) n)) | inr k ↦ absurd k ]
  ];
}

-- one more piece, which names one more item
pub named_more : {X : Type 0} (R : X → X → Type 0) (Names : Piece → X → Type 0) (seen : List Piece) (names : List X)
    (p : Piece) (x : X) → AreNamed R Names seen names → Names p x → ((y : X) → Names p y → y ≡ x)
    → ((r : Piece) (y : X) → Has seen r → Names r y → R y x) → AreNamed R Names (seen ++ p ∷ []) (names ++ x ∷ [])
named_more R Names seen names p x are here one behind = record {
  order = ordered_append R names (x ∷ []) are.order (tt, tt) (λ y z h k. elim k [
    | inl e ↦ let r = are.sound y h in subst (R y) e (behind r.0 y r.1 r.2)
    | inr k ↦ absurd k
  ]);
  sound = λ y h. elim (has_append_cases names (x ∷ []) y h) [
    | inl k ↦ let r = are.sound y k in (r.0, has_append_left seen (p ∷ []) r.0 r.1, r.2)
    | inr k ↦ elim k [
      | inl e ↦ (p, has_append_right seen (p ∷ []) p (inl refl), subst (Names p) e here)
      | inr k ↦ absurd k
    ]
  ];
  complete = λ r y h n. elim (has_append_cases seen (p ∷ []) r h) [
    | inl k ↦ has_append_left names (x ∷ []) y (are.complete r y k n)
    | inr k ↦ elim k [
      | inl e ↦ has_append_right names (x ∷ []) y (inl (sym (one y (subst (λ z. Names z y) (sym e) n))))
      | inr k ↦ absurd k
    ]
  ];
}

-- a piece in front, which names nothing
pub named_behind : {X : Type 0} (R : X → X → Type 0) (Names : Piece → X → Type 0) (pieces : List Piece) (names : List X)
    (p : Piece) → AreNamed R Names pieces names → ((x : X) → ¬ Names p x) → AreNamed R Names (p ∷ pieces) names
named_behind R Names pieces names p are none = record {
  order = are.order;
  sound = λ x h. let r = are.sound x h in (r.0, inr r.1, r.2);
  complete = λ r x h n. elim h [
    | inl e ↦ absurd (none x (subst (λ y. Names y x) (sym e) n))
    | inr k ↦ are.complete r x k n
  ];
}

-- a piece in front, which names one item
pub named_first : {X : Type 0} (R : X → X → Type 0) (Names : Piece → X → Type 0) (pieces : List Piece) (names : List X)
    (p : Piece) (x : X) → AreNamed R Names pieces names → Names p x → ((y : X) → Names p y → y ≡ x)
    → ((r : Piece) (y : X) → Has pieces r → Names r y → R x y) → AreNamed R Names (p ∷ pieces) (x ∷ names)
named_first R Names pieces names p x are here one ahead = record {
  order = (
    all_from_members (R x) names (λ y h. let r = are.sound y h in ahead r.0 y r.1 r.2),
    are.order,
  );
  sound = λ y h. elim h [
    | inl e ↦ (p, inl refl, subst (Names p) e here)
    | inr k ↦ let r = are.sound y k in (r.0, inr r.1, r.2)
  ];
  complete = λ r y h n. elim h [
    | inl e ↦ inl (sym (one y (subst (λ z. Names z y) (sym e) n)))
    | inr k ↦ inr (are.complete r y k n)
  ];
}

-- the next piece of a level
pub is_next : (g : LinkGraph) (q : List ℕ) (level : ℕ) (seen coming rest : List Piece) (p : Piece) → 1 ≤ level
    → level < length g.nodes → pieces_of_level (length q) level ≡ seen ++ coming → coming ≡ p ∷ rest
    → IsPiece g q p × (level_of p ≡ level)
is_next g q level seen coming rest p low high all e = unlisted g q level p low high
    (next_listed (pieces_of_level (length q) level) seen rest p (all ∙ ap (λ l. seen ++ l) e))

-- an earlier piece of a level comes before the next one
pub is_behind : (g : LinkGraph) (q : List ℕ) (level : ℕ) (seen coming rest : List Piece) (p r : Piece)
    → pieces_of_level (length q) level ≡ seen ++ coming → coming ≡ p ∷ rest → Has seen r → ComesBefore r p
is_behind g q level seen coming rest p r all e h = ordered_across ComesBefore seen (p ∷ rest) r p
    (subst (Ordered ComesBefore) (all ∙ ap (λ l. seen ++ l) e) (ordered_columns level 0 (length q))) h (inl refl)

-- a piece that is no linked pair names itself
abbrev pub NamesItself : LinkGraph → List ℕ → Piece → Piece → Type 0
NamesItself g q p x = (x ≡ p) × ¬ IsLinkedPair g q p

pub unlinked_put : (g : LinkGraph) (q : List ℕ) (level : ℕ) (seen coming rest names : List Piece) (p : Piece)
    → pieces_of_level (length q) level ≡ seen ++ coming → coming ≡ p ∷ rest → ¬ IsLinkedPair g q p
    → AreNamed ComesBefore (NamesItself g q) seen names
    → AreNamed ComesBefore (NamesItself g q) (seen ++ p ∷ []) (names ++ p ∷ [])
unlinked_put g q level seen coming rest names p all e apart are =
    named_more ComesBefore (NamesItself g q) seen names p p are (refl, apart) (λ y n. n.0)
    (λ r y h n. subst (λ (z : Piece). ComesBefore z p) (sym n.0) (is_behind g q level seen coming rest p r all e h))

-- what a whole level names are its pieces that are no linked pairs
pub unlinked_all : (g : LinkGraph) (q : List ℕ) (level : ℕ) (names : List Piece) → 1 ≤ level → level < length g.nodes
    → AreNamed ComesBefore (NamesItself g q) (pieces_of_level (length q) level) names
    → AreUnlinkedPieces g q level names
unlinked_all g q level names low high are = record {
  order = are.order;
  each = λ p. (
    (λ h.
        let r = are.sound p h in
        let u = unlisted g q level r.0 low high r.1 in
        subst (IsUnlinked g q level) (sym r.2.0) (u.0, u.1, r.2.1)),
    (λ u. are.complete p p (listed g q level p u.0 u.1) (refl, u.2)),
  );
}

-- what holds of all items and of one more item holds of the longer list
pub holds_more : {X : Type 0} (P : X → Type 0) (xs ys : List X) (x : X) → ys ≡ xs ++ x ∷ []
    → ((y : X) → Has xs y → P y) → P x → (y : X) → Has ys y → P y
holds_more P xs ys x e all here y h = elim (has_append_cases xs (x ∷ []) y (subst (λ l. Has l y) e h)) [
  | inl k ↦ all y k
  | inr k ↦ elim k [ inl d ↦ subst P d here | inr k ↦ absurd k ]
]

pub names_more : {X Y : Type 0} (f : X → Y) (xs ys : List X) (x : X) → ys ≡ xs ++ x ∷ []
    → map f ys ≡ map f xs ++ f x ∷ []
names_more f xs ys x e = ap (map f) e ∙ map-append f xs (x ∷ [])

-- no piece of the level is left
pub all_seen : {X : Type 0} (R : X → X → Type 0) (Names : Piece → X → Type 0) (pieces seen coming : List Piece)
    (names : List X) → pieces ≡ seen ++ coming → coming ≡ [] → AreNamed R Names seen names
    → AreNamed R Names pieces names
all_seen R Names pieces seen coming names e none are = subst (λ (l : List Piece). AreNamed R Names l names)
    (sym (e ∙ ap (λ l. seen ++ l) none ∙ append-nil seen)) are

pub listed_more : (pieces seen coming rest : List Piece) (p : Piece) → pieces ≡ seen ++ coming → coming ≡ p ∷ rest
    → pieces ≡ (seen ++ p ∷ []) ++ rest
listed_more pieces seen coming rest p e step = e ∙ ap (λ l. seen ++ l) step ∙ sym (append_assoc seen (p ∷ []) rest)
