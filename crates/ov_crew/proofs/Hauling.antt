-- The haul of a worker, piece by piece.
use Rattle.std.proofs.Common.{◌≡◌, ◌⊎◌, ◌↔◌, ℕ, ◌+◌, ◌<◌, List, [], ◌∷◌, ◌++◌, length, Some, None}
use Rattle.std.proofs.Common.{refl, sym, ap, ◌∙◌, subst, inl, inr, arith}
use Rattle.std.proofs.lemmas.Option.{none-some}
use Rattle.ov_even.specs.Hauls.{SettlesNumber}
use Rattle.ov_ids.specs.Members.{Has}
use Rattle.ov_ids.specs.Sets.{has, adding}
use Rattle.ov_ids.proofs.Members.{has_append_left, has_append_right, has_append_cases, has_tested}
use Rattle.ov_ids.proofs.Sets.{members_adding}
use Rattle.ov_graph.specs.Links.{LinkGraph}
use Rattle.ov_fans.specs.Pieces.{IsPiece}
use Rattle.ov_fans.specs.Cuts.{IsRight}
use Rattle.ov_fans.specs.Theorems.{IsNoCut}
use Rattle.ov_fans.specs.declared.piece.Piece.{Piece}
use Rattle.ov_fans.specs.declared.piece_result.Settled.{Settled}
use Rattle.ov_board.specs.Claims.{WorkerState, fresh}
use Rattle.ov_board.specs.Steps.{failing}
use Rattle.ov_board.proofs.Staying.{gaining, ascends_push}
use Rattle.ov_even.specs.Order.{IsNumbered}
use Rattle.ov_even.proofs.PieceNumbers.Numbering.{numbered_piece, one_number}
use Rattle.ov_crew.specs.Hauls.{IsHaulOf, ArePiecesOf}
use Rattle.ov_crew.specs.Code.Turns.{HasTaken, HasStopped, HasSettled}

-- the haul of a worker that has done nothing yet is empty
pub fresh_haul : (g : LinkGraph) (q : List ℕ) (first : ℕ) → IsHaulOf g q first fresh []
fresh_haul g q first = record {
  right = λ s h. absurd h;
  numbers = [];
  worked_on = record { order = tt; each = λ x. ((λ h. absurd h), (λ k. absurd k.0)) };
  settled = tt;
  failed = λ x. ((λ h. absurd h), (λ a. absurd a.1.0));
}

-- a worker that has stopped has the same haul as before
pub stopped_haul : (g : LinkGraph) (q : List ℕ) (first : ℕ) (w v : WorkerState) (pieces : List Settled)
    → w.skipped ≡ None → HasStopped w v → IsHaulOf g q first w pieces → IsHaulOf g q first v pieces
stopped_haul g q first w v pieces none s h = record {
  right = h.right;
  numbers = h.numbers;
  worked_on = record {
    order = h.worked_on.order;
    each = λ x. (
      (λ k. (s.worked_on x).1 ((h.worked_on.each x).0 k).0),
      (λ k. (h.worked_on.each x).1 ((s.worked_on x).0 k, λ e. none-some x (sym none ∙ e))),
    );
  };
  settled = h.settled;
  failed = λ x. (
    (λ k. (h.failed x).0 (subst (λ (xs : List ℕ). Has xs x) s.failed k)),
    (λ a. subst (λ (xs : List ℕ). Has xs x) (sym s.failed) ((h.failed x).1 a)),
  );
}

-- the worker w took number x, and has become v. The number failed if `Fails` holds
pub record HasGained (w v : WorkerState) (x : ℕ) (Fails : Type 0) : Type 0 where
  pub claimed : v.claimed ≡ w.claimed ++ x ∷ []
  pub skipped : v.skipped ≡ w.skipped
  pub ended : v.ended ≡ w.ended
  pub failed : (y : ℕ) → Has v.failed y ↔ (Has w.failed y ⊎ ((y ≡ x) × Fails))

-- the failed numbers after one more
more_failed : (x : ℕ) (xs : List ℕ) (y : ℕ) → Has (adding x xs) y ↔ ((y ≡ x) ⊎ Has xs y)
more_failed x xs y =
    let new = has_tested (adding x xs) y (has (adding x xs) y) refl in
    let old = has_tested xs y (has xs y) refl in
    let more = members_adding x xs (adding x xs) refl y in (
      (λ h. elim (more.0 (new.1 h)) [ inl e ↦ inl e | inr k ↦ inr (old.0 k) ]),
      (λ h. new.0 (more.1 (elim h [ inl e ↦ inl e | inr k ↦ inr (old.1 k) ]))),
    )

-- a worker that takes a number has gained it, without a failure or with one
pub gained_good : (w v : WorkerState) (x : ℕ) (Fails : Type 0) → ¬ Fails → v ≡ gaining x w → HasGained w v x Fails
gained_good w v x Fails good became = subst (λ (u : WorkerState). HasGained w u x Fails) (sym became) record {
  claimed = refl;
  skipped = refl;
  ended = refl;
  failed = λ y. ((λ h. inl h), (λ h. elim h [ inl m ↦ m | inr m ↦ absurd (good m.1) ]));
}

pub gained_failed : (w v : WorkerState) (x : ℕ) (Fails : Type 0) → Fails → v ≡ failing x (gaining x w)
    → HasGained w v x Fails
gained_failed w v x Fails fails became = subst (λ (u : WorkerState). HasGained w u x Fails) (sym became) record {
  claimed = refl;
  skipped = refl;
  ended = refl;
  failed = λ y.
      let more = more_failed x w.failed y in (
        (λ h. elim (more.0 h) [ inl e ↦ inr (e, fails) | inr m ↦ inl m ]),
        (λ h. more.1 (elim h [ inl m ↦ inr m | inr m ↦ inl m.0 ])),
      );
}

pub gains : (g : LinkGraph) (q : List ℕ) (total x : ℕ) (piece : Piece) (w u v : WorkerState)
    (before after : List Settled) → HasTaken total x w u → (s : HasSettled g q piece x u v before after)
    → HasGained w v x (¬ IsNoCut s.settled.found)
gains g q total x piece w u v before after t s = elim s.became [
  | inl k ↦ gained_good w v x (¬ IsNoCut s.settled.found) (λ n. n k.0) (k.1 ∙ t.became)
  | inr k ↦ gained_failed w v x (¬ IsNoCut s.settled.found) k.0 (k.1 ∙ ap (failing x) t.became)
]

-- one piece more
pieces_push : (g : LinkGraph) (q : List ℕ) (first x : ℕ) (numbers : List ℕ) (pieces : List Settled) (s : Settled)
    → ArePiecesOf g q first numbers pieces → IsNumbered (length g.nodes) (length q) (first + x) s.piece
    → ArePiecesOf g q first (numbers ++ x ∷ []) (pieces ++ s ∷ [])
pieces_push g q first x [] [] s are is = (is, tt)
pieces_push g q first x [] (t ∷ pieces) s are is = absurd are
pieces_push g q first x (y ∷ numbers) [] s are is = absurd are
pieces_push g q first x (y ∷ numbers) (t ∷ pieces) s are is =
    (are.0, pieces_push g q first x numbers pieces s are.1 is)

-- the piece of one of the numbers
piece_of : (g : LinkGraph) (q : List ℕ) (first x : ℕ) (numbers : List ℕ) (pieces : List Settled)
    → ArePiecesOf g q first numbers pieces → Has numbers x → (s : Settled) × SettlesNumber g q pieces (first + x) s
piece_of g q first x [] pieces are h = absurd h
piece_of g q first x (y ∷ numbers) [] are h = absurd are
piece_of g q first x (y ∷ numbers) (s ∷ pieces) are h = elim h [
  | inl e ↦
      (s, (inl refl, subst (λ (z : ℕ). IsNumbered (length g.nodes) (length q) (first + z) s.piece) e are.0))
  | inr k ↦ let a = piece_of g q first x numbers pieces are.1 k in (a.0, (inr a.1.0, a.1.1))
]

-- the number of one of the pieces
number_of : (g : LinkGraph) (q : List ℕ) (first x : ℕ) (numbers : List ℕ) (pieces : List Settled) (s : Settled)
    → ArePiecesOf g q first numbers pieces → SettlesNumber g q pieces (first + x) s → Has numbers x
number_of g q first x [] [] s are a = absurd a.0
number_of g q first x [] (t ∷ pieces) s are a = absurd are
number_of g q first x (y ∷ numbers) [] s are a = absurd are
number_of g q first x (y ∷ numbers) (t ∷ pieces) s are a = elim a.0 [
  | inl e ↦
      let there = subst (λ (u : Settled). IsNumbered (length g.nodes) (length q) (first + y) u.piece) e are.0 in
      let same = one_number (length g.nodes) (length q) (first + y) (first + x) s.piece there a.1 in
      inl (omega (arith, same))
  | inr k ↦ inr (number_of g q first x numbers pieces s are.1 (k, a.1))
]

-- a haul has exactly the pieces of the numbers that its worker claimed and did not skip
pub has_settled : (g : LinkGraph) (q : List ℕ) (first : ℕ) (v : WorkerState) (pieces : List Settled)
    → IsHaulOf g q first v pieces → (x : ℕ)
    → (Has v.claimed x × ¬ (v.skipped ≡ Some x)) ↔ ((s : Settled) × SettlesNumber g q pieces (first + x) s)
has_settled g q first v pieces h x = (
  (λ k. piece_of g q first x h.numbers pieces h.settled ((h.worked_on.each x).1 k)),
  (λ a. (h.worked_on.each x).0 (number_of g q first x h.numbers pieces a.0 h.settled a.1)),
)

-- a worker w with this haul settles one piece more, and becomes v
record AddsPiece (g : LinkGraph) (q : List ℕ) (first x : ℕ) (w v : WorkerState) (pieces : List Settled)
    (piece : Settled) : Type 0 where
  was : IsHaulOf g q first w pieces
  none : w.skipped ≡ None
  later : (y : ℕ) → Has w.claimed y → y < x
  gained : HasGained w v x (¬ IsNoCut piece.found)
  numbered : IsNumbered (length g.nodes) (length q) (first + x) piece.piece
  right : IsRight g q piece

with_piece : (g : LinkGraph) (q : List ℕ) (first x : ℕ) (w v : WorkerState) (pieces : List Settled) (piece : Settled)
    → AddsPiece g q first x w v pieces piece → IsHaulOf g q first v (pieces ++ piece ∷ [])
with_piece g q first x w v pieces piece k = record {
  right = λ s h. elim (old_or_new s h) [
    | inl m ↦ k.was.right s m
    | inr e ↦
        let is = numbered_piece (length g.nodes) (length q) (first + x) piece.piece k.numbered in
        subst (λ (t : Settled). IsPiece g q t.piece × IsRight g q t) e (is, k.right)
  ];
  numbers = k.was.numbers ++ x ∷ [];
  worked_on = record {
    order = ascends_push k.was.numbers x k.was.worked_on.order
        (λ y h. k.later y ((k.was.worked_on.each y).0 h).0);
    each = λ y. (
      (λ h. (
        subst (λ (xs : List ℕ). Has xs y) (sym k.gained.claimed)
            (elim (has_append_cases k.was.numbers (x ∷ []) y h) [
              | inl m ↦ has_append_left w.claimed (x ∷ []) y ((k.was.worked_on.each y).0 m).0
              | inr m ↦ has_append_right w.claimed (x ∷ []) y m
            ]),
        λ e. none_before y (sym k.gained.skipped ∙ e),
      )),
      (λ h. elim (has_append_cases w.claimed (x ∷ []) y (subst (λ (xs : List ℕ). Has xs y) k.gained.claimed h.0)) [
        | inl m ↦ has_append_left k.was.numbers (x ∷ []) y ((k.was.worked_on.each y).1 (m, none_before y))
        | inr m ↦ has_append_right k.was.numbers (x ∷ []) y m
      ]),
    );
  };
  settled = pieces_push g q first x k.was.numbers pieces piece k.was.settled k.numbered;
  failed = λ y. (
    (λ h. elim ((k.gained.failed y).0 h) [
      | inl m ↦ let a = (k.was.failed y).0 m in (a.0, (old a.0 a.1.0, a.1.1), a.2)
      | inr m ↦ (piece, new y m.0, m.1)
    ]),
    (λ a. (k.gained.failed y).1 (elim (old_or_new a.0 a.1.0) [
      | inl m ↦ inl ((k.was.failed y).1 (a.0, (m, a.1.1), a.2))
      | inr e ↦ inr (its_number y a.0 e a.1.1, subst (λ (t : Settled). ¬ IsNoCut t.found) (sym e) a.2)
    ])),
  );
}
  where
    none_before : (y : ℕ) → ¬ (w.skipped ≡ Some y)
    none_before y e = none-some y (sym k.none ∙ e)

    old : (s : Settled) → Has pieces s → Has (pieces ++ piece ∷ []) s
    old s h = has_append_left pieces (piece ∷ []) s h

    new : (y : ℕ) → y ≡ x → SettlesNumber g q (pieces ++ piece ∷ []) (first + y) piece
    new y e = (
      has_append_right pieces (piece ∷ []) piece (inl refl),
      subst (λ (i : ℕ). IsNumbered (length g.nodes) (length q) (first + i) piece.piece) (sym e) k.numbered,
    )

    old_or_new : (s : Settled) → Has (pieces ++ piece ∷ []) s → Has pieces s ⊎ (piece ≡ s)
    old_or_new s h = elim (has_append_cases pieces (piece ∷ []) s h) [
      | inl m ↦ inl m
      | inr m ↦ elim m [ inl e ↦ inr e | inr n ↦ absurd n ]
    ]

    -- the new piece has this number and no other
    its_number : (y : ℕ) (s : Settled) → piece ≡ s → IsNumbered (length g.nodes) (length q) (first + y) s.piece → y ≡ x
    its_number y s e a =
        let there = λ (t : Settled). IsNumbered (length g.nodes) (length q) (first + y) t.piece in
        let same = one_number (length g.nodes) (length q) (first + y) (first + x) piece.piece
        (subst there (sym e) a) k.numbered in
        omega (arith, same)

pub more_haul : (g : LinkGraph) (q : List ℕ) (first total x : ℕ) (piece : Piece) (w u v : WorkerState)
    (before after : List Settled) → IsHaulOf g q first w before → w.skipped ≡ None → HasTaken total x w u
    → IsNumbered (length g.nodes) (length q) (first + x) piece → HasSettled g q piece x u v before after
    → IsHaulOf g q first v after
more_haul g q first total x piece w u v before after was none t numbered s =
    subst (IsHaulOf g q first v) (sym s.pieces) (with_piece g q first x w v before s.settled record {
      was = was;
      none = none;
      later = t.later;
      gained = gains g q total x piece w u v before after t s;
      numbered = subst (IsNumbered (length g.nodes) (length q) (first + x)) (sym s.of_piece) numbered;
      right = s.right;
    })
