-- A sound worker is sound after each of its turns.
use Rattle.std.proofs.Common.{◌≡◌, ◌≢◌, ◌⊎◌, ◌↔◌, ℕ, Bool, true, false, cond, List, [], ◌∷◌, ◌++◌, length, Some, refl}
use Rattle.std.proofs.Common.{sym, ap, ◌∙◌, subst, inl, inr}
use Rattle.std.proofs.lemmas.Bool.{cases_eq}
use Rattle.std.proofs.lemmas.Option.{same_Some}
use Rattle.ov_even.specs.Hauls.{SettlesNumber}
use Rattle.ov_ids.specs.Members.{Has}
use Rattle.ov_ids.proofs.Members.{has_append_left, has_append_right, has_append_cases}
use Rattle.ov_graph.specs.Links.{LinkGraph}
use Rattle.ov_fans.specs.Pieces.{IsPiece}
use Rattle.ov_fans.specs.Cuts.{IsRight}
use Rattle.ov_fans.specs.Theorems.{IsNoCut}
use Rattle.ov_fans.specs.declared.piece_result.Settled.{Settled}
use Rattle.ov_board.specs.Claims.{WorkerState, fresh}
use Rattle.ov_board.specs.Steps.{IsLast}
use Rattle.ov_board.proofs.Staying.{gaining, ending, skipping}
use Rattle.ov_board.proofs.Turns.{own_last}
use Rattle.ov_even.specs.Order.{IsNumbered}
use Rattle.ov_even.proofs.PieceNumbers.Numbering.{numbered_piece, one_number}
use Rattle.ov_even.specs.declared.piece_in_hand.Hand.{Hand}
use Rattle.ov_even.specs.declared.piece_in_hand.Hand.TheVariants.{Nothing, Claimed, Looked}
use Rattle.ov_even.specs.Desk.{IsNumberIn}
use Rattle.ov_even.specs.SoundDesk.{IsThroughWith, IsSoundWorker}

-- a worker that has done nothing yet is sound
pub fresh_sound : (g : LinkGraph) (q : List ℕ) → IsSoundWorker g q fresh Nothing []
fresh_sound g q = record {
  last = λ x n. absurd n;
  goes_on = λ x n. absurd n;
  right = λ s h. absurd h;
  through = λ x. ((λ t. absurd t.claimed), (λ a. absurd a.1.0));
  failed = λ x. ((λ h. absurd h), (λ a. absurd a.1.0));
}

-- a turn in which the worker settles nothing and fails at nothing: it has finished the same numbers as before, and the
-- number in its hand is the last that it claimed
record StaysThrough (v z : WorkerState) (hand other : Hand) : Type 0 where
  failed : z.failed ≡ v.failed
  last : (x : ℕ) → IsNumberIn other x → IsLast z x
  goes_on : (x : ℕ) → IsNumberIn other x → z.ended ≡ false
  before : (x : ℕ) → IsThroughWith z other x → IsThroughWith v hand x
  still : (x : ℕ) → IsThroughWith v hand x → IsThroughWith z other x

-- the worker stays sound
stays_through : (g : LinkGraph) (q : List ℕ) (v z : WorkerState) (hand other : Hand) (pieces : List Settled)
    → IsSoundWorker g q v hand pieces → StaysThrough v z hand other → IsSoundWorker g q z other pieces
stays_through g q v z hand other pieces s t = record {
  last = t.last;
  goes_on = t.goes_on;
  right = s.right;
  through = λ x. ((λ k. (s.through x).0 (t.before x k)), (λ a. t.still x ((s.through x).1 a)));
  failed = λ x. (
    (λ h. (s.failed x).0 (subst (λ (xs : List ℕ). Has xs x) t.failed h)),
    (λ a. subst (λ (xs : List ℕ). Has xs x) (sym t.failed) ((s.failed x).1 a)),
  );
}

-- the worker takes a number in hand that it had not claimed before
gains : (x : ℕ) (v : WorkerState) → v.ended ≡ false → ((y : ℕ) → Has v.claimed y → y ≢ x)
    → StaysThrough v (gaining x v) Nothing (Claimed x)
gains x v on new = record {
  failed = refl;
  last = λ y e. (v.claimed, ap (λ (i : ℕ). v.claimed ++ i ∷ []) (sym e));
  goes_on = λ y e. on;
  before = λ y t. record {
    claimed = elim (has_append_cases v.claimed (x ∷ []) y t.claimed) [
      | inl h ↦ h
      | inr m ↦ absurd (elim m [ inl e ↦ t.put_down (sym e) | inr n ↦ n ])
    ];
    worked_on = t.worked_on;
    put_down = λ n. n;
  };
  still = λ y t. record {
    claimed = has_append_left v.claimed (x ∷ []) y t.claimed;
    worked_on = t.worked_on;
    put_down = new y t.claimed;
  };
}

-- no number is left: the hand stays empty
ends : (v : WorkerState) → StaysThrough v (ending v) Nothing Nothing
ends v = record {
  failed = refl;
  last = λ y n. absurd n;
  goes_on = λ y n. absurd n;
  before = λ y t. record { claimed = t.claimed; worked_on = t.worked_on; put_down = t.put_down };
  still = λ y t. record { claimed = t.claimed; worked_on = t.worked_on; put_down = t.put_down };
}

-- the worker skips the number in its hand, and so has not finished it
skips : (x : ℕ) (v : WorkerState) → ((y : ℕ) → ¬ (v.skipped ≡ Some y))
    → StaysThrough v (skipping x v) (Claimed x) Nothing
skips x v none = record {
  failed = refl;
  last = λ y n. absurd n;
  goes_on = λ y n. absurd n;
  before = λ y t. record {
    claimed = t.claimed;
    worked_on = none y;
    put_down = λ e. t.worked_on (ap Some (sym e));
  };
  still = λ y t. record {
    claimed = t.claimed;
    worked_on = λ e. t.put_down (sym (same_Some x y e));
    put_down = λ n. n;
  };
}

-- the worker goes on with the number in its hand
goes_on : (x : ℕ) (v : WorkerState) → IsLast v x → v.ended ≡ false → StaysThrough v v (Claimed x) (Looked x)
goes_on x v last on = record {
  failed = refl;
  last = λ y e. subst (IsLast v) (sym e) last;
  goes_on = λ y e. on;
  before = λ y t. record { claimed = t.claimed; worked_on = t.worked_on; put_down = t.put_down };
  still = λ y t. record { claimed = t.claimed; worked_on = t.worked_on; put_down = t.put_down };
}

-- a worker is sound after its claim; b tests whether the number is below the total
pub claimed_sound : (g : LinkGraph) (q : List ℕ) (x : ℕ) (v : WorkerState) (pieces : List Settled) (b : Bool)
    → IsSoundWorker g q v Nothing pieces → v.ended ≡ false → ((y : ℕ) → Has v.claimed y → y ≢ x)
    → IsSoundWorker g q (cond b (gaining x v) (ending v)) (cond b (Claimed x) Nothing) pieces
claimed_sound g q x v pieces true s on new =
    stays_through g q v (gaining x v) Nothing (Claimed x) pieces s (gains x v on new)
claimed_sound g q x v pieces false s on new = stays_through g q v (ending v) Nothing Nothing pieces s (ends v)

-- a worker is sound after its look; b tests whether a lower number has failed
pub looked_sound : (g : LinkGraph) (q : List ℕ) (x : ℕ) (v : WorkerState) (pieces : List Settled) (b : Bool)
    → IsSoundWorker g q v (Claimed x) pieces → ((y : ℕ) → ¬ (v.skipped ≡ Some y))
    → IsSoundWorker g q (cond b (skipping x v) v) (cond b Nothing (Looked x)) pieces
looked_sound g q x v pieces true s none =
    stays_through g q v (skipping x v) (Claimed x) Nothing pieces s (skips x v none)
looked_sound g q x v pieces false s none =
    stays_through g q v v (Claimed x) (Looked x) pieces s (goes_on x v (s.last x refl) (s.goes_on x refl))

-- worker v, which has looked for x, settles the piece of x and becomes z. It has failed at x if the result is a cut
pub record Settles (g : LinkGraph) (q : List ℕ) (v z : WorkerState) (x : ℕ) (pieces : List Settled) (piece : Settled)
    : Type 0 where
  pub was : IsSoundWorker g q v (Looked x) pieces
  pub worked_on : ¬ (v.skipped ≡ Some x)
  pub claimed : z.claimed ≡ v.claimed
  pub skipped : z.skipped ≡ v.skipped
  pub failed : (y : ℕ) → Has z.failed y ↔ (Has v.failed y ⊎ ((y ≡ x) × ¬ IsNoCut piece.found))
  pub numbered : IsNumbered (length g.nodes) (length q) x piece.piece
  pub right : IsRight g q piece

-- such a worker is sound
pub settled_sound : (g : LinkGraph) (q : List ℕ) (v z : WorkerState) (x : ℕ) (pieces : List Settled) (piece : Settled)
    → Settles g q v z x pieces piece → IsSoundWorker g q z Nothing (pieces ++ piece ∷ [])
settled_sound g q v z x pieces piece k = record {
  last = λ y n. absurd n;
  goes_on = λ y n. absurd n;
  right = λ s h. elim (old_or_new s h) [
    | inl m ↦ k.was.right s m
    | inr e ↦
        let is = numbered_piece (length g.nodes) (length q) x piece.piece k.numbered in
        subst (λ (t : Settled). IsPiece g q t.piece × IsRight g q t) e (is, k.right)
  ];
  through = λ y. (
    through_then y,
    (λ a. elim (old_or_new a.0 a.1.0) [
      | inl m ↦
          let t = (k.was.through y).1 (a.0, (m, a.1.1)) in
          put_down y t.claimed t.worked_on
      | inr e ↦
          let same = its_number y a.0 e a.1.1 in
          put_down y (subst (Has v.claimed) (sym same) (own_last v x (k.was.last x refl)))
          (λ f. k.worked_on (f ∙ ap Some same))
    ]),
  );
  failed = λ y. (
    (λ h. elim ((k.failed y).0 h) [
      | inl m ↦ let a = (k.was.failed y).0 m in (a.0, (old a.0 a.1.0, a.1.1), a.2)
      | inr m ↦ (piece, new y m.0, m.1)
    ]),
    (λ a. (k.failed y).1 (elim (old_or_new a.0 a.1.0) [
      | inl m ↦ inl ((k.was.failed y).1 (a.0, (m, a.1.1), a.2))
      | inr e ↦ inr (its_number y a.0 e a.1.1, subst (λ (t : Settled). ¬ IsNoCut t.found) (sym e) a.2)
    ])),
  );
}
  where
    old : (s : Settled) → Has pieces s → Has (pieces ++ piece ∷ []) s
    old s h = has_append_left pieces (piece ∷ []) s h

    new : (y : ℕ) → y ≡ x → SettlesNumber g q (pieces ++ piece ∷ []) y piece
    new y e = (
      has_append_right pieces (piece ∷ []) piece (inl refl),
      subst (λ (i : ℕ). IsNumbered (length g.nodes) (length q) i piece.piece) (sym e) k.numbered,
    )

    old_or_new : (s : Settled) → Has (pieces ++ piece ∷ []) s → Has pieces s ⊎ (piece ≡ s)
    old_or_new s h = elim (has_append_cases pieces (piece ∷ []) s h) [
      | inl m ↦ inl m
      | inr m ↦ elim m [ inl e ↦ inr e | inr n ↦ absurd n ]
    ]

    -- the new piece has number x and no other
    its_number : (y : ℕ) (s : Settled) → piece ≡ s → IsNumbered (length g.nodes) (length q) y s.piece → y ≡ x
    its_number y s e a =
        let there = λ (t : Settled). IsNumbered (length g.nodes) (length q) y t.piece in
        one_number (length g.nodes) (length q) y x piece.piece (subst there (sym e) a) k.numbered

    put_down : (y : ℕ) → Has v.claimed y → ¬ (v.skipped ≡ Some y) → IsThroughWith z Nothing y
    put_down y h n = record {
      claimed = subst (λ (xs : List ℕ). Has xs y) (sym k.claimed) h;
      worked_on = λ e. n (sym k.skipped ∙ e);
      put_down = λ n. n;
    }

    through_then : (y : ℕ) → IsThroughWith z Nothing y → (s : Settled) × SettlesNumber g q (pieces ++ piece ∷ []) y s
    through_then y t = elim (cases_eq y x) [
      | inl e ↦ (piece, new y e)
      | inr o ↦
          let a = (k.was.through y).0 record {
            claimed = subst (λ (xs : List ℕ). Has xs y) k.claimed t.claimed;
            worked_on = λ e. t.worked_on (k.skipped ∙ e);
            put_down = o;
          } in (a.0, (old a.0 a.1.0, a.1.1))
    ]
