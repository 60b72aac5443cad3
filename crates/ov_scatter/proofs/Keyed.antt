-- The keys of ranks, and of the places of these ranks.
use Rattle.std.proofs.Common.{◌≡◌, ◌∙◌, ◌+◌, ◌*◌, ◌%◌, ◌≤◌, ◌<◌, inl, inr, List, [], ◌∷◌, ◌++◌, ℕ, zero, suc}
use Rattle.std.proofs.Common.{set, sym, ap, subst, refl, length, length-set, get_or, arith}
use Rattle.std.proofs.lemmas.Bool.{cases_eq, cases_lt}
use Rattle.std.proofs.lemmas.List.{get_or-set_same, get_or-set_other}
use Rattle.std.proofs.lemmas.Nat.{mod-mul-add, mod_below, mul-mod_first}
use Rattle.ov_ids.specs.Members.{Has}
use Rattle.ov_ids.proofs.Members.{has_append_cases, has_append_left, has_append_right, has_place, place_of}
use Rattle.ov_scatter.specs.Code.Keys.{AreKeysOf, HasKeyOfRank, IsOrder, key_of, place_at, rank_of_key}

-- ---- keys and ranks

-- the rank of a key has it
pub key_back : (key : ℕ) → key < 32768 → key_of (rank_of_key key) ≡ key
unfolding key_of rank_of_key
key_back key low =
    mul-mod_first (key * 29459) 20251 32768
    ∙ ap (λ n. n % 32768) (omega arith)
    ∙ mod-mul-add (key * 18206) 32768 key low

pub rank_back : (rank : ℕ) → rank < 32768 → rank_of_key (key_of rank) ≡ rank
unfolding key_of rank_of_key
rank_back rank low =
    mul-mod_first (rank * 20251) 29459 32768
    ∙ ap (λ n. n % 32768) (omega arith)
    ∙ mod-mul-add (rank * 18206) 32768 rank low

pub key_low : (rank : ℕ) → key_of rank < 32768
unfolding key_of
key_low rank = mod_below (rank * 20251) 32768 (omega arith)

-- two ranks with one key are the same
one_rank : (r s : ℕ) → r < 32768 → s < 32768 → key_of r ≡ key_of s → r ≡ s
one_rank r s low less e = sym (rank_back r low) ∙ ap rank_of_key e ∙ rank_back s less

-- ---- keys and places

-- no two places have one key
pub one_place : (order : List (ℕ × ℕ)) (keys : List ℕ) (p q : ℕ) → length order ≤ 32768 → AreKeysOf order keys
    → p < length order → q < length order → get_or keys p 0 ≡ get_or keys q 0 → p ≡ q
one_place order keys p q few s l m e =
    let a = s.each p l in
    let b = s.each q m in
    let i = a.1 in
    let j = b.1 in
    let same = one_rank a.0 b.0 (omega (arith, i, few)) (omega (arith, j, few)) (sym a.3 ∙ e ∙ b.3) in
    sym a.2 ∙ ap (place_at order) same ∙ b.2

pub keys_low : (order : List (ℕ × ℕ)) (keys : List ℕ) (key : ℕ) → AreKeysOf order keys → Has keys key → key < 32768
keys_low order keys key s h =
    let at = place_of keys key h in
    let count = s.count in
    let low = at.1 in
    let own = s.each at.0 (omega (arith, low, count)) in
    let same : key ≡ key_of own.0 = sym at.2 ∙ own.3 in
    let less = key_low own.0 in omega (arith, same, less)

-- a key that some place has is that of the place of its rank
pub ranked : (order : List (ℕ × ℕ)) (keys : List ℕ) (key : ℕ) → length order ≤ 32768 → AreKeysOf order keys
    → Has keys key
    → (rank_of_key key < length order) × (get_or keys (place_at order (rank_of_key key)) 0 ≡ key)
ranked order keys key few s h =
    let at = place_of keys key h in
    let count = s.count in
    let low = at.1 in
    let own = s.each at.0 (omega (arith, low, count)) in
    let less = own.1 in
    let same : own.0 ≡ rank_of_key key =
    sym (rank_back own.0 (omega (arith, less, few))) ∙ ap rank_of_key (sym own.3 ∙ at.2) in
    let place : place_at order (rank_of_key key) ≡ at.0 = ap (place_at order) (sym same) ∙ own.2 in
    (omega (arith, less, same), ap (λ p. get_or keys p 0) place ∙ at.2)

-- a place within a list has its item, whatever stands for the others
pub any_default : {X : Type 0} (xs : List X) (i : ℕ) (d e : X) → i < length xs → get_or xs i d ≡ get_or xs i e
any_default [] i d e low = absurd (omega (arith, low))
any_default (x ∷ xs) zero d e low = refl
any_default (x ∷ xs) (suc i) d e low = any_default xs i d e (omega (arith, low))

-- the place of a rank is one of the places
pub rank_placed : (n : ℕ) (order : List (ℕ × ℕ)) (rank : ℕ) (d : ℕ × ℕ) → IsOrder n order → rank < length order
    → (get_or order rank d).1 < n
rank_placed n order rank d s low = s.within (get_or order rank d) (has_place order rank d low)

-- ---- places, one after another

pub order_begun : IsOrder 0 []
order_begun = record {
  count = refl;
  within = λ e h. absurd h;
  all = λ p low. absurd (omega (arith, low));
}

pub order_more : (n number : ℕ) (order : List (ℕ × ℕ)) → IsOrder n order → IsOrder (n + 1) (order ++ (number, n) ∷ [])
order_more n number order s = record {
  count = length_more order (number, n) ∙ ap (λ k. k + 1) s.count;
  within = λ e h. elim (has_append_cases order ((number, n) ∷ []) e h) [
    | inl k ↦ let low = s.within e k in omega (arith, low)
    | inr k ↦ elim k [
      | inl same ↦ let own : n ≡ e.1 = ap (λ (x : ℕ × ℕ). x.1) same in omega (arith, own)
      | inr none ↦ absurd none
    ]
  ];
  all = λ p low. elim (cases_lt p n) [
    | inl l ↦ let some = s.all p l in
        (some.0, has_append_left order ((number, n) ∷ []) (some.0, p) some.1)
    | inr l ↦ let same : n ≡ p = omega (arith, l, low) in
        (number, has_append_right order ((number, n) ∷ []) (number, p) (inl (ap (λ x. (number, x)) same)))
  ];
}
  where
    length_more : (es : List (ℕ × ℕ)) (e : ℕ × ℕ) → length (es ++ e ∷ []) ≡ length es + 1
    length_more [] e = refl
    length_more (x ∷ es) e = let rest = length_more es e in omega (arith, rest)

-- ---- keys by rank

-- the places of ranks below i have their keys
pub record KeysSoFar (order : List (ℕ × ℕ)) (i : ℕ) (keys : List ℕ) : Type 0 where
  pub count : length keys ≡ length order
  pub each : (rank p : ℕ) → rank < i → place_at order rank ≡ p → HasKeyOfRank order keys p

pub keys_begun : (order : List (ℕ × ℕ)) (keys : List ℕ) → length keys ≡ length order → KeysSoFar order 0 keys
keys_begun order keys e = record {
  count = e;
  each = λ rank p low at. absurd (omega (arith, low));
}

-- one more place gets the key of its rank
pub keys_more : (order : List (ℕ × ℕ)) (i : ℕ) (keys new : List ℕ) → i < length order → place_at order i < length order
    → new ≡ set keys (place_at order i) (key_of i) → KeysSoFar order i keys → KeysSoFar order (i + 1) new
keys_more order i keys new less within is s = record {
  count = ap length is ∙ length-set keys (place_at order i) (key_of i) ∙ s.count;
  each = λ rank p low at. elim (cases_eq (place_at order i) p) [
    | inl e ↦ (i, less, e, subst (λ x. get_or new x 0 ≡ key_of i) e own)
    | inr differ ↦
        let other : rank < i = elim (cases_eq rank i) as (λ _. rank < i) [
          | inl same ↦ absurd (differ (ap (place_at order) (sym same) ∙ at))
          | inr other ↦ before rank other low
        ] in
        let had = s.each rank p other at in
        (had.0, had.1, had.2, kept p differ ∙ had.3)
  ];
}
  where
    before : (rank : ℕ) → ¬ (rank ≡ i) → rank < i + 1 → rank < i
    before rank differ low = omega (arith, differ, low)

    own : get_or new (place_at order i) 0 ≡ key_of i
    own =
        let count = s.count in
        ap (λ l. get_or l (place_at order i) 0) is
        ∙ get_or-set_same keys (place_at order i) (key_of i) 0 (omega (arith, within, count))

    kept : (p : ℕ) → ¬ (place_at order i ≡ p) → get_or new p 0 ≡ get_or keys p 0
    kept p differ =
        ap (λ l. get_or l p 0) is
        ∙ get_or-set_other keys (place_at order i) p (key_of i) 0 (λ e. differ (sym e))

-- each place has a rank
pub keys_all : (order : List (ℕ × ℕ)) (i : ℕ) (keys : List ℕ) → length order ≤ i → IsOrder (length order) order
    → KeysSoFar order i keys → AreKeysOf order keys
keys_all order i keys far own s = record {
  count = s.count;
  each = λ p low. let some = own.all p low in
      let at = entry_place order (some.0, p) some.1 in
      let less = at.1 in
      s.each at.0 p (omega (arith, less, far)) (ap (λ (e : ℕ × ℕ). e.1) at.2);
}
  where
    entry_place : (es : List (ℕ × ℕ)) (e : ℕ × ℕ) → Has es e → (i : ℕ) × (i < length es) × (get_or es i (0, 0) ≡ e)
    entry_place [] e h = absurd h
    entry_place (x ∷ es) e h = elim h [
      | inl same ↦ (0, omega arith, same)
      | inr k ↦ let r = entry_place es e k in let low = r.1 in (suc r.0, omega (arith, low), r.2)
    ]
