-- Each step of the claims keeps a legal state legal.
use Rattle.std.proofs.Common.{◌≡◌, ◌⊎◌, ℕ, ◌+◌, ◌<◌, ◌≤◌, min, Bool, true, false, cond, nat_lt}
use Rattle.std.proofs.Common.{List, [], ◌∷◌, ◌++◌, set}
use Rattle.std.proofs.Common.{slice_get, Some, refl, sym, ◌∙◌, subst, inl, inr, arith}
use Rattle.std.proofs.lemmas.Bool.{ltb-true, ltb-false}
use Rattle.std.proofs.lemmas.Option.{none-some, same_Some}
use Rattle.std.specs.List.{AllByRecursion}
use Rattle.ov_ids.specs.Members.{Has, Ascends}
use Rattle.ov_ids.specs.Sets.{adding}
use Rattle.ov_ids.proofs.Members.{has_append_left, has_append_right, has_append_cases, has_tested}
use Rattle.ov_ids.proofs.Sets.{IsSet-adding, IsIn-adding, IsIn-self, IsIn-added}
use Rattle.ov_board.specs.Claims.{WorkerState, DeskState, HasWorker, HasClaimed, HasFailed, count_ended, fresh}
use Rattle.ov_board.specs.Claims.{IsLegalWorker, IsLegal, opening_claims}
use Rattle.ov_board.specs.Steps.{claiming, failing, Claims, Looks, Fails}
use Rattle.ov_board.specs.Theorems.{StaysLegal}
use Rattle.ov_board.proofs.Changing.{after, at_changed, all_same, here, held_before, held_after, held_still}
use Rattle.ov_board.proofs.Changing.{ended_kept, ended_more}

-- a worker that does not change stays legal
later : (s : DeskState) (next least w : ℕ) (v z : WorkerState) → s.next ≤ next → least ≤ s.least → IsLegalWorker s z
    → IsLegalWorker (after s next least w v) z
later s next least w v z up down l = record {
  claimed_ascends = l.claimed_ascends;
  failed_ascends = l.failed_ascends;
  failed_own = l.failed_own;
  skipped_own = l.skipped_own;
  skipped_above = λ x e. let a = l.skipped_above x e in omega arith;
  skipped_ended = l.skipped_ended;
  ended_above = λ e n. let a = l.ended_above e n in omega arith;
}

-- all workers are legal after the change if the changed worker is
all_legal : (s : DeskState) (next least w : ℕ) (v : WorkerState) → IsLegal s → s.next ≤ next → least ≤ s.least
    → IsLegalWorker (after s next least w v) v
    → (u : ℕ) (z : WorkerState) → HasWorker (after s next least w v) u z → IsLegalWorker (after s next least w v) z
all_legal s next least w v l up down mine u z h = elim (at_changed s.workers w u v z h) [
  | inl k ↦ subst (IsLegalWorker (after s next least w v)) (sym k.1) mine
  | inr k ↦ later s next least w v z up down (l.workers u z k.1)
]

-- a change that leaves the claimed numbers, the failed numbers and the lowest failed number alone
record Rests (s : DeskState) (next w : ℕ) (v z : WorkerState) : Type 0 where
  was : HasWorker s w v
  legal : IsLegal s
  up : s.next ≤ next
  span : (x : ℕ) → x < next → x < s.total → x < s.next
  claimed : z.claimed ≡ v.claimed
  failed : z.failed ≡ v.failed
  mine : IsLegalWorker (after s next s.least w z) z
  bound : next ≤ s.total + count_ended (set s.workers w z)

rests : (s : DeskState) (next w : ℕ) (v z : WorkerState) → Rests s next w v z → IsLegal (after s next s.least w z)
rests s next w v z r = record {
  workers = all_legal s next s.least w z r.legal r.up (omega arith) r.mine;
  claimed = λ x. (
    (λ h.
        let b = (r.legal.claimed x).0 (h.0, claimed_before h.0 x h.1) in
        let up = r.up in
        (omega (arith, b.0, up), b.1)),
    (λ h. let c = (r.legal.claimed x).1 (r.span x h.0 h.1, h.1) in (c.0, claimed_after c.0 x c.1)),
  );
  once = λ x u y h k. r.legal.once x u y (claimed_before u x h) (claimed_before y x k);
  next = r.bound;
  least_failed = elim r.legal.least_failed [ inl f ↦ inl (failed_after s.least f) | inr e ↦ inr e ];
  least = λ x h. r.legal.least x (failed_before x h);
}
  where
    claimed_before : (u x : ℕ) → HasClaimed (after s next s.least w z) u x → HasClaimed s u x
    claimed_before u x h = held_still (λ y. y.claimed) s.workers w u v z x r.was r.claimed h

    claimed_after : (u x : ℕ) → HasClaimed s u x → HasClaimed (after s next s.least w z) u x
    claimed_after u x h =
        let keeps = subst (λ (xs : List ℕ). Has xs x) (sym r.claimed) in
        held_after (λ y. y.claimed) s.workers w u v z x r.was keeps h

    failed_before : (x : ℕ) → HasFailed (after s next s.least w z) x → HasFailed s x
    failed_before x h =
        let k = held_still (λ y. y.failed) s.workers w h.0 v z x r.was r.failed (h.1, h.2, h.3) in
        (h.0, k.0, k.1, k.2)

    failed_after : (x : ℕ) → HasFailed s x → HasFailed (after s next s.least w z) x
    failed_after x h =
        let keeps = subst (λ (xs : List ℕ). Has xs x) (sym r.failed) in
        let k = held_after (λ y. y.failed) s.workers w h.0 v z x r.was keeps (h.1, h.2, h.3) in
        (h.0, k.0, k.1, k.2)

-- each number of a worker is below the next number
own_below : (s : DeskState) (w : ℕ) (v : WorkerState) → IsLegal s → HasWorker s w v → (x : ℕ) → Has v.claimed x
    → (x < s.next) × (x < s.total)
own_below s w v l at x h = (l.claimed x).0 (w, (v, at, h))

-- a number above all numbers of an ascending list can be appended
pub ascends_push : (xs : List ℕ) (x : ℕ) → Ascends xs → ((y : ℕ) → Has xs y → y < x) → Ascends (xs ++ x ∷ [])
ascends_push [] x a h = (tt, tt)
ascends_push (y ∷ ys) x a h = (all_push y ys x a.0 (h y (inl refl)), ascends_push ys x a.1 (λ z m. h z (inr m)))
  where
    all_push : (y : ℕ) (ys : List ℕ) (x : ℕ) → AllByRecursion (λ (z : ℕ). y < z) ys → y < x
        → AllByRecursion (λ (z : ℕ). y < z) (ys ++ x ∷ [])
    all_push y [] x a h = (h, tt)
    all_push y (z ∷ ys) x a h = (a.0, all_push y ys x a.1 h)

-- the worker with one more number; the worker after it ended; the worker after it skipped a number
abbrev pub gaining : ℕ → WorkerState → WorkerState
gaining x v = record v { claimed = v.claimed ++ x ∷ [] }

abbrev pub ending : WorkerState → WorkerState
ending v = record v { ended = true }

abbrev pub skipping : ℕ → WorkerState → WorkerState
skipping x v = record v { skipped = Some x; ended = true }

-- a claim when no number is left
ends : (s : DeskState) (w : ℕ) (v : WorkerState) → IsLegal s → HasWorker s w v → v.ended ≡ false → s.total ≤ s.next
    → IsLegal (after s (s.next + 1) s.least w (ending v))
ends s w v l at on over = rests s (s.next + 1) w v (ending v) record {
  was = at;
  legal = l;
  up = omega arith;
  span = λ x a b. omega arith;
  claimed = refl;
  failed = refl;
  mine = let m = l.workers w v at in record {
    claimed_ascends = m.claimed_ascends;
    failed_ascends = m.failed_ascends;
    failed_own = m.failed_own;
    skipped_own = m.skipped_own;
    skipped_above = m.skipped_above;
    skipped_ended = λ x e. refl;
    ended_above = λ e n. omega arith;
  };
  bound = let b = l.next in omega (arith, b, ended_more s.workers w v (ending v) at on refl);
}

-- a claim of a number below the total
gains : (s : DeskState) (w : ℕ) (v : WorkerState) → IsLegal s → HasWorker s w v → s.next < s.total
    → IsLegal (after s (s.next + 1) s.least w (gaining s.next v))
gains s w v l at low = record {
  workers = all_legal s (s.next + 1) s.least w z l (omega arith) (omega arith) mine;
  claimed = λ x. (
    (λ h. elim (before h.0 x h.1) [
      | inl k ↦ let e = k.1 in (omega arith, omega arith)
      | inr k ↦ let b = (l.claimed x).0 (h.0, k) in (omega arith, b.1)
    ]),
    (λ h. elim (last_or_below x h.0) [
      | inl e ↦ (w, (z, here s.workers w v z at, has_append_right v.claimed (s.next ∷ []) x (inl (sym e))))
      | inr k ↦
          let c = (l.claimed x).1 (k, h.1) in
          (c.0, held_after (λ y. y.claimed) s.workers w c.0 v z x at (own x) c.1)
    ]),
  );
  once = λ x u y h k. elim (before u x h) [
    | inl a ↦ elim (before y x k) [ inl b ↦ a.0 ∙ sym b.0 | inr b ↦ absurd (not_before y x a.1 b) ]
    | inr a ↦ elim (before y x k) [ inl b ↦ absurd (not_before u x b.1 a) | inr b ↦ l.once x u y a b ]
  ];
  next = let b = l.next in omega (arith, b);
  least_failed = elim l.least_failed [
    | inl f ↦
        let k = held_after (λ y. y.failed) s.workers w f.0 v z s.least at (λ h. h) (f.1, f.2, f.3) in
        inl (f.0, k.0, k.1, k.2)
    | inr e ↦ inr e
  ];
  least = λ x h.
      let k = held_still (λ y. y.failed) s.workers w h.0 v z x at refl (h.1, h.2, h.3) in
      l.least x (h.0, k.0, k.1, k.2);
}
  where
    z : WorkerState
    z = gaining s.next v

    own : (x : ℕ) → Has v.claimed x → Has z.claimed x
    own x h = has_append_left v.claimed (s.next ∷ []) x h

    mine : IsLegalWorker (after s (s.next + 1) s.least w z) z
    mine = let m = l.workers w v at in record {
      claimed_ascends = ascends_push v.claimed s.next m.claimed_ascends (λ y h. (own_below s w v l at y h).0);
      failed_ascends = m.failed_ascends;
      failed_own = λ x h. own x (m.failed_own x h);
      skipped_own = λ x e. own x (m.skipped_own x e);
      skipped_above = m.skipped_above;
      skipped_ended = m.skipped_ended;
      ended_above = λ e n. let a = m.ended_above e n in omega arith;
    }

    -- whoever has x after the claim had it before, or is the claiming worker with the next number
    before : (u x : ℕ) → HasClaimed (after s (s.next + 1) s.least w z) u x
        → ((u ≡ w) × (x ≡ s.next)) ⊎ HasClaimed s u x
    before u x h = elim (held_before (λ y. y.claimed) s.workers w u z x h) [
      | inl k ↦ elim (has_append_cases v.claimed (s.next ∷ []) x k.1) [
        | inl m ↦ inr (v, subst (λ (i : ℕ). slice_get s.workers i ≡ Some v) (sym k.0) at, m)
        | inr m ↦ inl (k.0, elim m [ inl e ↦ sym e | inr n ↦ absurd n ])
      ]
      | inr k ↦ inr k
    ]

    not_before : (u x : ℕ) → x ≡ s.next → HasClaimed s u x → ⊥
    not_before u x e h = let b = (l.claimed x).0 (u, h) in omega arith

    last_or_below : (x : ℕ) → x < s.next + 1 → (x ≡ s.next) ⊎ (x < s.next)
    last_or_below x h = grind arith

-- a look when a lower number has failed
skips : (s : DeskState) (w x : ℕ) (v : WorkerState) → IsLegal s → HasWorker s w v → v.ended ≡ false → Has v.claimed x
    → s.least < x → IsLegal (after s s.next s.least w (skipping x v))
skips s w x v l at on own above = rests s s.next w v (skipping x v) record {
  was = at;
  legal = l;
  up = omega arith;
  span = λ x a b. a;
  claimed = refl;
  failed = refl;
  mine = let m = l.workers w v at in record {
    claimed_ascends = m.claimed_ascends;
    failed_ascends = m.failed_ascends;
    failed_own = m.failed_own;
    skipped_own = λ y e. subst (Has v.claimed) (same_Some x y e) own;
    skipped_above = λ y e. let k = same_Some x y e in omega arith;
    skipped_ended = λ y e. refl;
    ended_above = λ e n. absurd (cc n);
  };
  bound = let b = l.next in omega (arith, b, ended_more s.workers w v (skipping x v) at on refl);
}

-- a look when no lower number has failed
goes_on : (s : DeskState) (w : ℕ) (v : WorkerState) → IsLegal s → HasWorker s w v
    → IsLegal (after s s.next s.least w v)
goes_on s w v l at = rests s s.next w v v record {
  was = at;
  legal = l;
  up = omega arith;
  span = λ x a b. a;
  claimed = refl;
  failed = refl;
  mine = later s s.next s.least w v v (omega arith) (omega arith) (l.workers w v at);
  bound = let b = l.next in omega (arith, b, ended_kept s.workers w v v at refl);
}

-- the members of a set with one number added
pub has_added : (x : ℕ) (xs : List ℕ) (y : ℕ) → Has (adding x xs) y → (y ≡ x) ⊎ Has xs y
has_added x xs y h = elim (IsIn-adding x xs y ((has_tested (adding x xs) y _ refl).1 h)) [
  | inl e ↦ inl e
  | inr k ↦ inr ((has_tested xs y _ refl).0 k)
]

pub has_self : (x : ℕ) (xs : List ℕ) → Has (adding x xs) x
has_self x xs = (has_tested (adding x xs) x _ refl).0 (IsIn-self x xs)

pub has_still : (x : ℕ) (xs : List ℕ) (y : ℕ) → Has xs y → Has (adding x xs) y
has_still x xs y h = (has_tested (adding x xs) y _ refl).0 (IsIn-added x xs y ((has_tested xs y _ refl).1 h))

-- a number fails
breaks : (s : DeskState) (w x : ℕ) (v : WorkerState) → IsLegal s → HasWorker s w v → Has v.claimed x
    → IsLegal (after s s.next (min x s.least) w (failing x v))
breaks s w x v l at own = record {
  workers = all_legal s s.next (min x s.least) w z l (omega arith) (omega arith) mine;
  claimed = λ y. (
    (λ h. (l.claimed y).0 (h.0, claimed_before h.0 y h.1)),
    (λ h. let c = (l.claimed y).1 h in (c.0, held_after (λ k. k.claimed) s.workers w c.0 v z y at (λ h. h) c.1)),
  );
  once = λ y u k a b. l.once y u k (claimed_before u y a) (claimed_before k y b);
  next = let b = l.next in omega (arith, b, ended_kept s.workers w v z at refl);
  least_failed = elim (order x s.least) [
    | inl e ↦ inl (w, z, here s.workers w v z at, subst (Has (adding x v.failed)) (sym e.1) (has_self x v.failed))
    | inr e ↦ elim l.least_failed [
      | inl f ↦ inl (subst (HasFailed (after s s.next (min x s.least) w z)) (sym e.1) (failed_after s.least f))
      | inr f ↦ absurd (let b = own_below s w v l at x own in let low = e.0 in omega arith)
    ]
  ];
  least = λ y h. elim (held_before (λ k. k.failed) s.workers w h.0 z y (h.1, h.2, h.3)) [
    | inl k ↦ elim (has_added x v.failed y k.1) [
      | inl e ↦ omega arith
      | inr m ↦ let b = l.least y (w, v, at, m) in omega arith
    ]
    | inr k ↦ let b = l.least y (h.0, k.0, k.1, k.2) in omega arith
  ];
}
  where
    z : WorkerState
    z = failing x v

    mine : IsLegalWorker (after s s.next (min x s.least) w z) z
    mine = let m = l.workers w v at in record {
      claimed_ascends = m.claimed_ascends;
      failed_ascends = IsSet-adding x v.failed m.failed_ascends;
      failed_own = λ y h. elim (has_added x v.failed y h) [
        | inl e ↦ subst (Has v.claimed) (sym e) own
        | inr k ↦ m.failed_own y k
      ];
      skipped_own = m.skipped_own;
      skipped_above = λ y e. let a = m.skipped_above y e in omega arith;
      skipped_ended = m.skipped_ended;
      ended_above = m.ended_above;
    }

    claimed_before : (u y : ℕ) → HasClaimed (after s s.next (min x s.least) w z) u y → HasClaimed s u y
    claimed_before u y h = held_still (λ k. k.claimed) s.workers w u v z y at refl h

    failed_after : (y : ℕ) → HasFailed s y → HasFailed (after s s.next (min x s.least) w z) y
    failed_after y h =
        let k = held_after (λ k. k.failed) s.workers w h.0 v z y at (has_still x v.failed y) (h.1, h.2, h.3) in
        (h.0, k.0, k.1, k.2)

    order : (a b : ℕ) → ((a ≤ b) × (min a b ≡ a)) ⊎ ((b < a) × (min a b ≡ b))
    order a b = grind arith

-- the two cases of a claim, by the test b
claims_by : (s : DeskState) (w : ℕ) (v : WorkerState) (b : Bool) → nat_lt s.next s.total ≡ b → IsLegal s
    → HasWorker s w v → v.ended ≡ false
    → IsLegal (after s (s.next + 1) s.least w (cond b (gaining s.next v) (ending v)))
claims_by s w v true e l at on = gains s w v l at (ltb-true s.next s.total e)
claims_by s w v false e l at on = ends s w v l at on (ltb-false s.next s.total e)

claims : (s t : DeskState) (w x : ℕ) → IsLegal s → Claims s w x t → IsLegal t
claims s t w x l c =
    let next = claims_by s w c.worker (nat_lt s.next s.total) refl l c.has c.goes_on in
    let number = λ (y : ℕ). IsLegal (after s (s.next + 1) s.least w (claiming s.total y c.worker)) in
    subst IsLegal (sym c.after) (subst number (sym c.number) next)

-- the two cases of a look, by the test b
looks_by : (s : DeskState) (w x : ℕ) (v : WorkerState) (b : Bool) → nat_lt s.least x ≡ b → IsLegal s → HasWorker s w v
    → v.ended ≡ false → Has v.claimed x → IsLegal (after s s.next s.least w (cond b (skipping x v) v))
looks_by s w x v true e l at on own = skips s w x v l at on own (ltb-true s.least x e)
looks_by s w x v false e l at on own = goes_on s w v l at

looks : (s t : DeskState) (w x : ℕ) → IsLegal s → Looks s w x t → IsLegal t
looks s t w x l c =
    subst IsLegal (sym c.after) (looks_by s w x c.worker (nat_lt s.least x) refl l c.has c.goes_on c.own)

fails : (s t : DeskState) (w x : ℕ) → IsLegal s → Fails s w x t → IsLegal t
fails s t w x l c = subst IsLegal (sym c.after) (breaks s w x c.worker l c.has c.own)

-- the state before the first claim is legal
opens : (total workers : ℕ) → IsLegal (opening_claims total workers)
opens total workers = record {
  workers = λ w v h. subst (IsLegalWorker (opening_claims total workers)) (sym (all_same workers w fresh v h)) record {
    claimed_ascends = tt;
    failed_ascends = tt;
    failed_own = λ x k. absurd k;
    skipped_own = λ x e. absurd (none-some x e);
    skipped_above = λ x e. absurd (none-some x e);
    skipped_ended = λ x e. absurd (none-some x e);
    ended_above = λ e n. absurd (cc e);
  };
  claimed = λ x. ((λ h. absurd (none h.0 x h.1)), (λ h. absurd (let b = h.0 in omega arith)));
  once = λ x w u h k. absurd (none w x h);
  next = omega arith;
  least_failed = inr refl;
  least = λ x h. absurd (subst (λ (v : WorkerState). Has v.failed x) (all_same workers h.0 fresh h.1 h.2) h.3);
}
  where
    none : (w x : ℕ) → HasClaimed (opening_claims total workers) w x → ⊥
    none w x h = subst (λ (v : WorkerState). Has v.claimed x) (all_same workers w fresh h.0 h.1) h.2

pub stays_legal : StaysLegal
stays_legal = record { opens = opens; claims = claims; looks = looks; fails = fails }
