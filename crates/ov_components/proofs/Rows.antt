-- Rows of bits: whether a bit is set, and how many nodes a row picks.
use Rattle.std.proofs.Common.{◌≡◌, ◌≢◌, ◌↔◌, ◌⊎◌, ℕ, zero, suc, ◌+◌, ◌<◌, ◌≤◌, List, [], ◌∷◌, Bool, true, false, cond}
use Rattle.std.proofs.Common.{length, inl, inr, refl, sym, subst, arith}
use Rattle.std.proofs.lemmas.Bool.{both_ways}
use Rattle.ov_graph.specs.Row.{has_bit, HasBit, picked}
use Rattle.ov_graph.proofs.BitRows.Bits.{bit_moved}

pub bit_or_not : (row : List ℕ) (p : ℕ) → HasBit row p ⊎ (¬ HasBit row p)
bit_or_not row p = elim (has_bit row p) as (λ b. has_bit row p ≡ b → HasBit row p ⊎ (¬ HasBit row p)) [
  | true ↦ λ t. inl t
  | false ↦ λ t. inr (λ h. both_ways (has_bit row p) t h)
] refl

-- a row whose bits are all in another one picks no more nodes
pub fewer_picked : (row kept : List ℕ) (p : ℕ) (xs : List ℕ) → ((q : ℕ) → HasBit kept q → HasBit row q)
    → length (picked kept p xs) ≤ length (picked row p xs)
unfolding picked
fewer_picked row kept p [] sub = omega arith
fewer_picked row kept p (x ∷ xs) sub =
    let m = fewer_picked row kept (suc p) xs sub in
    elim (has_bit kept p) as
    (λ b. has_bit kept p ≡ b → length (cond b (x ∷ picked kept (suc p) xs) (picked kept (suc p) xs))
    ≤ length (cond (has_bit row p) (x ∷ picked row (suc p) xs) (picked row (suc p) xs))) [
      | true ↦ λ t. subst (λ (b : Bool). length (x ∷ picked kept (suc p) xs)
          ≤ length (cond b (x ∷ picked row (suc p) xs) (picked row (suc p) xs))) (sym (sub p t)) (omega (arith, m))
      | false ↦ λ t. elim (has_bit row p) as
          (λ b. length (picked kept (suc p) xs)
          ≤ length (cond b (x ∷ picked row (suc p) xs) (picked row (suc p) xs))) [
            | true ↦ omega (arith, m)
            | false ↦ m
          ]
    ] refl

-- and fewer, if it lacks the bit of one of the nodes
pub less_picked : (row kept : List ℕ) (p : ℕ) (xs : List ℕ) (k : ℕ) → ((q : ℕ) → HasBit kept q → HasBit row q)
    → k < length xs → HasBit row (p + k) → ¬ HasBit kept (p + k) → length (picked kept p xs) < length (picked row p xs)
unfolding picked
less_picked row kept p [] k sub l has lacks = absurd (omega arith)
less_picked row kept p (x ∷ xs) zero sub l has lacks =
    let m = fewer_picked row kept (suc p) xs sub in
    let t : has_bit row p ≡ true = bit_moved row (p + 0) p (omega arith) has in
    elim (has_bit kept p) as
    (λ b. has_bit kept p ≡ b → length (cond b (x ∷ picked kept (suc p) xs) (picked kept (suc p) xs))
    < length (cond (has_bit row p) (x ∷ picked row (suc p) xs) (picked row (suc p) xs))) [
      | true ↦ λ e. absurd (lacks (bit_moved kept p (p + 0) (omega arith) e))
      | false ↦ λ e. subst (λ (b : Bool). length (picked kept (suc p) xs)
          < length (cond b (x ∷ picked row (suc p) xs) (picked row (suc p) xs))) (sym t) (omega (arith, m))
    ] refl
less_picked row kept p (x ∷ xs) (suc k) sub l has lacks =
    let e : p + suc k ≡ suc p + k = omega arith in
    let m = less_picked row kept (suc p) xs k sub (omega arith) (bit_moved row (p + suc k) (suc p + k) e has)
    (λ h. lacks (bit_moved kept (suc p + k) (p + suc k) (sym e) h)) in
    elim (has_bit kept p) as
    (λ b. has_bit kept p ≡ b → length (cond b (x ∷ picked kept (suc p) xs) (picked kept (suc p) xs))
    < length (cond (has_bit row p) (x ∷ picked row (suc p) xs) (picked row (suc p) xs))) [
      | true ↦ λ t. subst (λ (b : Bool). length (x ∷ picked kept (suc p) xs)
          < length (cond b (x ∷ picked row (suc p) xs) (picked row (suc p) xs))) (sym (sub p t)) (omega (arith, m))
      | false ↦ λ t. elim (has_bit row p) as
          (λ b. length (picked kept (suc p) xs)
          < length (cond b (x ∷ picked row (suc p) xs) (picked row (suc p) xs))) [
            | true ↦ omega (arith, m)
            | false ↦ m
          ]
    ] refl

-- a row without the bit of one of the nodes picks fewer
pub less_by_one : (row kept : List ℕ) (xs : List ℕ) (place : ℕ)
    → ((q : ℕ) → HasBit kept q ↔ ((q ≢ place) × HasBit row q)) → place < length xs → HasBit row place
    → length (picked kept 0 xs) < length (picked row 0 xs)
less_by_one row kept xs place bits l has =
    less_picked row kept 0 xs place (λ q h. ((bits q).0 h).1) l (bit_moved row place (0 + place) (omega arith) has)
    (λ h. ((bits (0 + place)).0 h).0 (omega arith))
