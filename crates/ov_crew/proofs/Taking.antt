-- What a worker is after it claimed a number and looked.
use Rattle.std.proofs.Common.{◌≡◌, ℕ, ◌+◌, ◌-◌, ◌<◌, ◌≤◌, Bool, true, false, cond, nat_lt, max}
use Rattle.std.proofs.Common.{List, [], ◌∷◌, ◌++◌, Option, Some, Ok, refl, sym, ap, ◌∙◌, subst, inl, inr, arith}
use Rattle.std.specs.Prelude.{IfSome, OnOk, Result}
use Rattle.std.proofs.lemmas.Bool.Decides.{nat_tests}
use Rattle.std.proofs.lemmas.Option.{same_Some}
use Rattle.ov_ids.specs.Members.{Has}
use Rattle.ov_ids.specs.declared.out_of_memory.OutOfMemory.{OutOfMemory}
use Rattle.ov_ids.proofs.Members.{has_append_left, has_append_right, has_append_cases}
use Rattle.ov_board.specs.Claims.{WorkerState}
use Rattle.ov_board.specs.Steps.{claiming, looking}
use Rattle.ov_board.proofs.Staying.{gaining, ending, skipping}
use Rattle.ov_crew.specs.Code.Turns.{HasTaken, HasStopped}

-- a claim of a number below the total, and of one that is not
pub claims_below : (total x : ℕ) (w : WorkerState) → x < total → claiming total x w ≡ gaining x w
claims_below total x w low = ap (λ (b : Bool). cond b (gaining x w) (ending w)) (is low)
  where
    is : x < total → nat_lt x total ≡ true
    is low = grind (arith, nat_tests)

pub claims_over : (total x : ℕ) (w : WorkerState) → total ≤ x → claiming total x w ≡ ending w
claims_over total x w high = ap (λ (b : Bool). cond b (gaining x w) (ending w)) (is high)
  where
    is : total ≤ x → nat_lt x total ≡ false
    is high = grind (arith, nat_tests)

-- a look after which the worker skips its number, and one after which it goes on
looks_below : (least x : ℕ) (w : WorkerState) → least < x → looking least x w ≡ skipping x w
looks_below least x w low = ap (λ (b : Bool). cond b (skipping x w) w) (is low)
  where
    is : least < x → nat_lt least x ≡ true
    is low = grind (arith, nat_tests)

looks_over : (least x : ℕ) (w : WorkerState) → x ≤ least → looking least x w ≡ w
looks_over least x w high = ap (λ (b : Bool). cond b (skipping x w) w) (is high)
  where
    is : x ≤ least → nat_lt least x ≡ false
    is high = grind (arith, nat_tests)

-- a worker has claimed the number that it was given
pub has_claimed : (total x : ℕ) (w : WorkerState) → x < total → Has (claiming total x w).claimed x
has_claimed total x w low = subst (λ (u : WorkerState). Has u.claimed x) (sym (claims_below total x w low))
    (has_append_right w.claimed (x ∷ []) x (inl refl))

-- where no lower number has failed, the worker has taken its number
pub takes : (total least x : ℕ) (w : WorkerState) → x < total → x ≤ least → ((y : ℕ) → Has w.claimed y → y < x)
    → HasTaken total x w (looking least x (claiming total x w))
takes total least x w low high later = record {
  below = low;
  later = later;
  became = looks_over least x (claiming total x w) high ∙ claims_below total x w low;
}

-- where a lower number has failed, the worker has stopped, and has claimed one number more, which it skips
pub skips : (total least x : ℕ) (w : WorkerState) → x < total → least < x → ((y : ℕ) → Has w.claimed y → y < x)
    → HasStopped w (looking least x (claiming total x w))
skips total least x w low under later = subst (HasStopped w)
    (sym (looks_below least x (claiming total x w) under ∙ ap (skipping x) (claims_below total x w low))) record {
      ended = refl;
      failed = refl;
      worked_on = λ y. (
        (λ h. elim (has_append_cases w.claimed (x ∷ []) y h.0) [
          | inl k ↦ k
          | inr k ↦ absurd (elim k [ inl e ↦ h.1 (ap Some e) | inr n ↦ n ])
        ]),
        (λ k. (has_append_left w.claimed (x ∷ []) y k, λ e. not_itself y k (same_Some x y e))),
      );
    }
  where
    not_itself : (y : ℕ) → Has w.claimed y → x ≡ y → ⊥
    not_itself y k e = let up = later y k in omega (arith, up, e)

-- one more than the highest of these numbers
abbrev pub bound_of : List ℕ → ℕ
bound_of [] = 0
bound_of (x ∷ xs) = max (x + 1) (bound_of xs)

-- it is at most a number above all, and rises where such a number is added
bound_below : (xs : List ℕ) (n : ℕ) → ((x : ℕ) → Has xs x → x < n) → bound_of xs ≤ n
bound_below [] n h = omega arith
bound_below (x ∷ xs) n h =
    let a = h x (inl refl) in
    let b = bound_below xs n (λ y k. h y (inr k)) in
    omega (arith, a, b)

bound_more : (xs : List ℕ) (n : ℕ) → bound_of xs ≤ n → bound_of (xs ++ n ∷ []) ≡ n + 1
bound_more [] n h = omega arith
bound_more (x ∷ xs) n h = let r = bound_more xs n (omega (arith, h)) in omega (arith, r, h)

-- how many numbers may still be claimed, at most, falls with each number that is taken
pub fewer_left : (total x : ℕ) (w v : WorkerState) (claimed : List ℕ) → HasTaken total x w v
    → claimed ≡ w.claimed ++ x ∷ [] → total - bound_of claimed < total - bound_of w.claimed
fewer_left total x w v claimed t same =
    let below = t.below in
    let was = bound_below w.claimed x t.later in
    let is : bound_of claimed ≡ x + 1 = ap bound_of same ∙ bound_more w.claimed x was in
    omega (arith, below, was, is)

-- the number that was taken
pub taken_here : (total : ℕ) (w v : WorkerState) (o : Option ℕ) (x : ℕ) → o ≡ Some x
    → IfSome o (λ y. HasTaken total y w v) → HasTaken total x w v
taken_here total w v o x is t = subst (λ (p : Option ℕ). IfSome p (λ y. HasTaken total y w v)) is t

-- what is known of a piece that was settled or examined
pub settled_here : (P : Type 0) (r : Result (Unit {0}) OutOfMemory) → r ≡ Ok tt → OnOk r P → P
settled_here P r is h = subst (λ (o : Result (Unit {0}) OutOfMemory). OnOk o P) is h
