-- The list of workers after one worker has changed.
use Rattle.std.proofs.Common.{◌≡◌, ◌≢◌, ◌⊎◌, ℕ, zero, suc, ◌+◌, Bool, true, false, cond, List, [], ◌∷◌, length}
use Rattle.std.proofs.Common.{set, replicate, slice_get, Some, refl, sym, ap, ◌∙◌, subst, inl, inr, arith}
use Rattle.std.proofs.lemmas.Option.{none-some, same_Some}
use Rattle.std.specs.List.{filter}
use Rattle.ov_ids.specs.Members.{Has}
use Rattle.ov_board.specs.Claims.{WorkerState, DeskState, count_ended}

-- the claims after worker w became v, with this next number and this lowest failed number
abbrev pub after : DeskState → ℕ → ℕ → ℕ → WorkerState → DeskState
after s next least w v = record { total = s.total; next = next; least = least; workers = set s.workers w v }

-- this worker stands at this place
abbrev pub IsAt : List WorkerState → ℕ → WorkerState → Type 0
IsAt ws w v = slice_get ws w ≡ Some v

-- worker u has x in its list f
abbrev pub Holds : (WorkerState → List ℕ) → List WorkerState → ℕ → ℕ → Type 0
Holds f ws u x = (z : WorkerState) × IsAt ws u z × Has (f z) x

-- whether this worker has ended
abbrev pub is_ended : WorkerState → Bool
is_ended v = v.ended

-- after a write at one place, the item at a place is the written one or the earlier one
pub at_changed : {X : Type 0} (xs : List X) (w u : ℕ) (x z : X) → slice_get (set xs w x) u ≡ Some z
    → ((u ≡ w) × (z ≡ x)) ⊎ ((u ≢ w) × (slice_get xs u ≡ Some z))
at_changed {X} [] w u x z h = absurd (none-some z h)
at_changed {X} (y ∷ xs) zero zero x z h = inl (refl, sym (same_Some x z h))
at_changed {X} (y ∷ xs) zero (suc u) x z h = inr ((λ e. omega arith), h)
at_changed {X} (y ∷ xs) (suc w) zero x z h = inr ((λ e. omega arith), h)
at_changed {X} (y ∷ xs) (suc w) (suc u) x z h = elim (at_changed xs w u x z h) [
  | inl k ↦ inl (ap suc k.0, k.1)
  | inr k ↦ inr ((λ e. k.0 (omega arith)), k.1)
]

-- each item of a list of equal items is that item
pub all_same : {X : Type 0} (n w : ℕ) (x y : X) → slice_get (replicate n x) w ≡ Some y → y ≡ x
all_same {X} zero w x y h = absurd (none-some y h)
all_same {X} (suc n) zero x y h = sym (same_Some x y h)
all_same {X} (suc n) (suc w) x y h = all_same n w x y h

pub here : (ws : List WorkerState) (w : ℕ) (v z : WorkerState) → IsAt ws w v → IsAt (set ws w z) w z
here [] w v z h = absurd (none-some v h)
here (y ∷ ws) zero v z h = refl
here (y ∷ ws) (suc w) v z h = here ws w v z h

pub elsewhere : (ws : List WorkerState) (w u : ℕ) (v z : WorkerState) → u ≢ w → IsAt ws u z → IsAt (set ws w v) u z
elsewhere [] w u v z n h = h
elsewhere (y ∷ ws) zero zero v z n h = absurd (n refl)
elsewhere (y ∷ ws) zero (suc u) v z n h = h
elsewhere (y ∷ ws) (suc w) zero v z n h = h
elsewhere (y ∷ ws) (suc w) (suc u) v z n h = elsewhere ws w u v z (λ e. n (ap suc e)) h

-- one place has one worker
pub one_worker : (ws : List WorkerState) (w : ℕ) (v z : WorkerState) → IsAt ws w v → IsAt ws w z → v ≡ z
one_worker ws w v z h k = same_Some v z (sym h ∙ k)

-- whoever has a number after the change had it before, or is the changed worker
pub held_before : (f : WorkerState → List ℕ) (ws : List WorkerState) (w u : ℕ) (v : WorkerState) (x : ℕ)
    → Holds f (set ws w v) u x → ((u ≡ w) × Has (f v) x) ⊎ Holds f ws u x
held_before f ws w u v x h = elim (at_changed ws w u v h.0 h.1) [
  | inl k ↦ inl (k.0, subst (λ (z : WorkerState). Has (f z) x) k.1 h.2)
  | inr k ↦ inr (h.0, k.1, h.2)
]

-- if the changed worker keeps its numbers, every worker keeps its numbers
pub held_after : (f : WorkerState → List ℕ) (ws : List WorkerState) (w u : ℕ) (v z : WorkerState) (x : ℕ)
    → IsAt ws w v → (Has (f v) x → Has (f z) x) → Holds f ws u x → Holds f (set ws w z) u x
held_after f ws w u v z x at keeps h = elim (here_or_not w u) [
  | inl e ↦
      let at_w : IsAt ws w h.0 = subst (λ (i : ℕ). IsAt ws i h.0) e h.1 in
      let same = one_worker ws w h.0 v at_w at in
      let mine : Has (f v) x = subst (λ (y : WorkerState). Has (f y) x) same h.2 in
      (z, subst (λ (i : ℕ). IsAt (set ws w z) i z) (sym e) (here ws w v z at), keeps mine)
  | inr n ↦ (h.0, elsewhere ws w u z h.0 n h.1, h.2)
]
  where
    here_or_not : (w u : ℕ) → (u ≡ w) ⊎ (u ≢ w)
    here_or_not w u = grind arith

-- if the changed worker has only numbers that it had before, nobody has a number that they did not have before
pub held_still : (f : WorkerState → List ℕ) (ws : List WorkerState) (w u : ℕ) (v z : WorkerState) (x : ℕ)
    → IsAt ws w v → f z ≡ f v → Holds f (set ws w z) u x → Holds f ws u x
held_still f ws w u v z x at same h = elim (held_before f ws w u z x h) [
  | inl k ↦ (v, subst (λ (i : ℕ). IsAt ws i v) (sym k.0) at, subst (λ (xs : List ℕ). Has xs x) same k.1)
  | inr k ↦ k
]

-- the count of ended workers, starting at the first
one_if : Bool → ℕ
one_if b = cond b 1 0

ended_first : (b : Bool) (y : WorkerState) (ws : List WorkerState) → length (cond b (y ∷ ws) ws) ≡ one_if b + length ws
unfolding one_if
ended_first true y ws = omega arith
ended_first false y ws = omega arith

ended_swapped : (ws : List WorkerState) (w : ℕ) (v z : WorkerState) → IsAt ws w v
    → count_ended (set ws w z) + one_if v.ended ≡ count_ended ws + one_if z.ended
ended_swapped [] w v z h = absurd (none-some v h)
ended_swapped (y ∷ ws) zero v z h =
    let same : one_if y.ended ≡ one_if v.ended = ap (λ (u : WorkerState). one_if u.ended) (same_Some y v h) in
    omega (arith, same, ended_first z.ended z (filter is_ended ws), ended_first y.ended y (filter is_ended ws))
ended_swapped (y ∷ ws) (suc w) v z h =
    let rest = ended_swapped ws w v z h in
    let now = ended_first y.ended y (filter is_ended (set ws w z)) in
    omega (arith, rest, now, ended_first y.ended y (filter is_ended ws))

-- the count of ended workers after the change, if the changed worker has ended as before, or has ended now
pub ended_kept : (ws : List WorkerState) (w : ℕ) (v z : WorkerState) → IsAt ws w v → z.ended ≡ v.ended
    → count_ended (set ws w z) ≡ count_ended ws
ended_kept ws w v z h e =
    let same : one_if z.ended ≡ one_if v.ended = ap one_if e in omega (arith, same, ended_swapped ws w v z h)

pub ended_more : (ws : List WorkerState) (w : ℕ) (v z : WorkerState) → IsAt ws w v → v.ended ≡ false → z.ended ≡ true
    → count_ended (set ws w z) ≡ count_ended ws + 1
unfolding one_if
ended_more ws w v z h off on =
    let before : one_if v.ended ≡ 0 = ap one_if off in
    let now : one_if z.ended ≡ 1 = ap one_if on in
    omega (arith, before, now, ended_swapped ws w v z h)
