-- The keys of places, and the places in the order of their keys.
use Rattle.std.proofs.Common.{◌≡◌, ◌≢◌, ◌∙◌, ◌+◌, ◌*◌, ◌%◌, ◌≤◌, ◌<◌, inl, inr, List, [], ◌∷◌, ◌++◌, ℕ}
use Rattle.std.proofs.Common.{sym, ap, subst, refl, length, get_or, arith, true, false, ne_eqb, eqb, eq-or-lt_of_le}
use Rattle.std.proofs.Common.{eqb-true, nat_le}
use Rattle.std.proofs.Common.{if◌then◌else◌}
use Rattle.std.proofs.lemmas.Map.Keys.{IsDistinct-from_apart}
use Rattle.std.proofs.lemmas.Map.Steps.{length-le_from_distinct_below}
use Rattle.std.proofs.lemmas.Nat.{mod-mul-add, mod_below, mul-mod_first}
use Rattle.std.specs.List.{list_any}
use Rattle.ov_ids.specs.Members.{Has}
use Rattle.ov_ids.proofs.Members.{has_append_cases, has_append_left, has_append_right, has_from_any, ordered_at}
use Rattle.ov_graph.specs.Links.{most_nodes, most_of_any_graph}
use Rattle.ov_dump.specs.Code.Numbering.{AreByKey, place_of_key}
use Rattle.ov_dump.specs.Dumps.{key_of}
use Rattle.ov_dump.proofs.Places.{ordered_more}

-- ---- keys and places

-- the place of a key, of many names, has it
turned : (k : ℕ) → k < 32768 → ((k * 29459) % 32768 * 20251) % 32768 ≡ k
turned k low =
    mul-mod_first (k * 29459) 20251 32768
    ∙ ap (λ n. n % 32768) (omega arith)
    ∙ mod-mul-add (k * 18206) 32768 k low

turned_back : (p : ℕ) → p < 32768 → ((p * 20251) % 32768 * 29459) % 32768 ≡ p
turned_back p low =
    mul-mod_first (p * 20251) 29459 32768
    ∙ ap (λ n. n % 32768) (omega arith)
    ∙ mod-mul-add (p * 18206) 32768 p low

pub key_back : (count key : ℕ) → key < most_of_any_graph → key_of count (place_of_key count key) ≡ key
key_back count key low =
    elim (nat_le count most_nodes) as (λ b. (if b then (if b then key else (key * 29459) % 32768)
    else ((if b then key else (key * 29459) % 32768) * 20251) % 32768) ≡ key) [
      | true ↦ refl
      | false ↦ turned key low
    ]

pub place_back : (count p : ℕ) → p < most_of_any_graph → place_of_key count (key_of count p) ≡ p
place_back count p low =
    elim (nat_le count most_nodes) as (λ b. (if b then (if b then p else (p * 20251) % 32768)
    else ((if b then p else (p * 20251) % 32768) * 29459) % 32768) ≡ p) [
      | true ↦ refl
      | false ↦ turned_back p low
    ]

pub key_low : (count p : ℕ) → p < most_of_any_graph → key_of count p < most_of_any_graph
key_low count p low =
    elim (nat_le count most_nodes) as (λ b. (if b then p else (p * 20251) % 32768) < most_of_any_graph) [
      | true ↦ low
      | false ↦ mod_below (p * 20251) 32768 (omega arith)
    ]

-- ---- places in the order of their keys

pub by_key_begun : (count : ℕ) → AreByKey count 0 []
by_key_begun count = record {
  each = λ p. ((λ h. absurd h), (λ h. let low = h.1 in absurd (omega (arith, low))));
  ascend = tt;
}

-- the next key is that of a place of a name
pub by_key_more : (count key place : ℕ) (places : List ℕ) → place ≡ place_of_key count key → count ≤ most_of_any_graph
    → key < most_of_any_graph → place < count → AreByKey count key places
    → AreByKey count (key + 1) (places ++ place ∷ [])
by_key_more count key place places is few low own s =
    let at : key_of count place ≡ key = ap (key_of count) is ∙ key_back count key low in record {
      each = λ p. (
        (λ h. elim (has_append_cases places (place ∷ []) p h) [
          | inl m ↦ let r = (s.each p).0 m in let l = r.1 in (r.0, omega (arith, l))
          | inr m ↦ elim m [
            | inl e ↦ (
              subst (λ (x : ℕ). x < count) e own,
              subst (λ (x : ℕ). key_of count x < key + 1) e (omega (arith, at)),
            )
            | inr none ↦ absurd none
          ]
        ]),
        (λ h. let own = h.0 in let l = h.1 in
            let low : key_of count p ≤ key = omega (arith, l) in elim (eq-or-lt_of_le low) [
              | inl e ↦ has_append_right places (place ∷ []) p
                  (inl (is ∙ ap (place_of_key count) (sym e) ∙ place_back count p (omega (arith, own, few))))
              | inr m ↦ has_append_left places (place ∷ []) p ((s.each p).1 (own, m))
            ]),
      );
      ascend = ordered_more (λ p q. key_of count p < key_of count q) places place s.ascend
          (λ p h. subst (λ (k : ℕ). key_of count p < k) (sym at) ((s.each p).0 h).1);
    }

-- the next key is that of no place of a name
pub by_key_same : (count key place : ℕ) (places : List ℕ) → place ≡ place_of_key count key → count ≤ most_of_any_graph
    → key < most_of_any_graph → count ≤ place → AreByKey count key places
    → AreByKey count (key + 1) places
by_key_same count key place places is few low far s = record {
  each = λ p. (
    (λ h. let r = (s.each p).0 h in let l = r.1 in (r.0, omega (arith, l))),
    (λ h. let own = h.0 in let l = h.1 in
        let low : key_of count p ≤ key = omega (arith, l) in elim (eq-or-lt_of_le low) [
          | inl e ↦ let same : place ≡ p =
              is ∙ ap (place_of_key count) (sym e) ∙ place_back count p (omega (arith, own, few)) in
              absurd (omega (arith, own, far, same))
          | inr m ↦ (s.each p).1 (own, m)
        ]),
  );
  ascend = s.ascend;
}

-- a place of a name has its key, so it is among all of them
pub all_by_key : (count : ℕ) (order : List ℕ) → count ≤ most_of_any_graph → AreByKey count most_of_any_graph order
    → (p : ℕ) → p < count → Has order p
all_by_key count order few s p own = (s.each p).1 (own, key_low count p (omega (arith, own, few)))

-- two of the places differ
pub apart : (count key : ℕ) (order : List ℕ) (i j d : ℕ) → AreByKey count key order → i < j → j < length order
    → get_or order i d ≢ get_or order j d
apart count key order i j d s low high same =
    let l = ordered_at (λ p q. key_of count p < key_of count q) order i j d s.ascend low high in
    let e = ap (key_of count) same in omega (arith, l, e)

-- there are no more than names
pub few_places : (count key : ℕ) (order : List ℕ) → AreByKey count key order → length order ≤ count
few_places count key order s =
    length-le_from_distinct_below order count
    (IsDistinct-from_apart eqb order
    (λ i j d low high. ne_eqb (get_or order i d) (get_or order j d) (apart count key order i j d s low high)))
    (λ q t. below q t)
  where
    below : (q : ℕ) → list_any (eqb q) order ≡ true → q < count
    below q t =
        let r = has_from_any (eqb q) order t in ((s.each q).0 (subst (Has order) (sym (eqb-true q r.0 r.2)) r.1)).0
