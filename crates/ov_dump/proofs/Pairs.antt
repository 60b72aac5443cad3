-- Sets of pairs of names.
use Rattle.std.proofs.Common.{◌≡◌, ◌∙◌, ◌↔◌, ◌⊎◌, inl, inr, List, [], ◌∷◌, ℕ, Bool, true, false, cond, not, ◌&&◌}
use Rattle.std.proofs.Common.{IsTrue, nat_eq, map, sym, ap, ap₂, subst, refl, Bor}
use Rattle.std.proofs.lemmas.Bool.{and_from, and_parts, both_ways}
use Rattle.std.proofs.lemmas.Slice.Eq.{bytes_eq-Decides}
use Rattle.std.specs.Cmp.Lexicographic.{pointwise}
use Rattle.std.specs.List.{list_any}
use Rattle.ov_ids.specs.Members.{Has}
use Rattle.ov_ids.proofs.Members.{any_from_has, has_from_any}

abbrev pub Key : Type 0
Key = Bor (List ℕ) × Bor (List ℕ)

-- the pair of a key
abbrev pub pair : Key → List ℕ × List ℕ
pair k = (k.0.now, k.1.now)

-- two keys are of one pair
abbrev pub same_pair : Key → Key → Bool
same_pair q k = pointwise nat_eq q.0.now k.0.now && pointwise nat_eq q.1.now k.1.now

-- the key of a pair
abbrev pub key : List ℕ → List ℕ → Key
key a b = (record { ref_ptr = (0, 0); now = a }, record { ref_ptr = (0, 0); now = b })

has_map : (keys : List Key) (k : Key) → Has keys k → Has (map pair keys) (pair k)
has_map [] k h = h
has_map (x ∷ keys) k h = elim h [ inl e ↦ inl (ap pair e) | inr m ↦ inr (has_map keys k m) ]

has_mapped : (keys : List Key) (p : List ℕ × List ℕ) → Has (map pair keys) p
    → (k : Key) × Has keys k × (pair k ≡ p)
has_mapped [] p h = absurd h
has_mapped (x ∷ keys) p h = elim h [
  | inl e ↦ (x, inl refl, e)
  | inr m ↦ let r = has_mapped keys p m in (r.0, inr r.1, r.2)
]

pub same_pairs : (q k : Key) → same_pair q k ≡ true → pair q ≡ pair k
same_pairs q k e =
    let parts = and_parts (pointwise nat_eq q.0.now k.0.now) (pointwise nat_eq q.1.now k.1.now) e in
    ap₂ (λ (a b : List ℕ). (a, b)) ((bytes_eq-Decides q.0.now k.0.now).0 parts.0)
    ((bytes_eq-Decides q.1.now k.1.now).0 parts.1)

pub pairs_same : (q k : Key) → pair q ≡ pair k → same_pair q k ≡ true
pairs_same q k e =
    and_from (pointwise nat_eq q.0.now k.0.now) (pointwise nat_eq q.1.now k.1.now)
    ((bytes_eq-Decides q.0.now k.0.now).1 (ap (λ (p : List ℕ × List ℕ). p.0) e))
    ((bytes_eq-Decides q.1.now k.1.now).1 (ap (λ (p : List ℕ × List ℕ). p.1) e))

-- the test for a member agrees with the relation
pub found : (keys : List Key) (q : Key) (t : Bool) → t ≡ list_any (same_pair q) keys
    → IsTrue t ↔ Has (map pair keys) (pair q)
found keys q t e = (
  (λ h. let r = has_from_any (same_pair q) keys (sym e ∙ h) in
      subst (Has (map pair keys)) (sym (same_pairs q r.0 r.2)) (has_map keys r.0 r.1)),
  (λ h. let r = has_mapped keys (pair q) h in
      e ∙ any_from_has (same_pair q) keys r.0 r.1 (pairs_same q r.0 (sym r.2))),
)

-- a key that was no member is new
pub fresh : (keys : List Key) (q : Key) (t : Bool) → t ≡ not (list_any (same_pair q) keys)
    → IsTrue t ↔ (¬ Has (map pair keys) (pair q))
fresh keys q t e =
    elim (list_any (same_pair q) keys) as (λ b. list_any (same_pair q) keys ≡ b → t ≡ not b
    → IsTrue t ↔ (¬ Has (map pair keys) (pair q))) [
      | true ↦ λ is no. (
        (λ h. absurd (both_ways t no h)),
        (λ none. absurd (none ((found keys q true (sym is)).0 refl))),
      )
      | false ↦ λ is yes. (
        (λ h m. both_ways (list_any (same_pair q) keys) is ((found keys q (list_any (same_pair q) keys) refl).1 m)),
        (λ none. yes),
      )
    ] refl e

-- the same, of a set that is seen as these pairs, and of the texts a and b
pub found_in : (keys : List Key) (ps : List (List ℕ × List ℕ)) (q0 q1 : Bor (List ℕ)) (a b : List ℕ) (t : Bool)
    → map pair keys ≡ ps → q0.now ≡ a → q1.now ≡ b
    → t ≡ list_any (λ k. pointwise nat_eq q0.now k.0.now && pointwise nat_eq q1.now k.1.now) keys
    → IsTrue t ↔ Has ps (a, b)
found_in keys ps q0 q1 a b t view first second e =
    subst (λ (xs : List (List ℕ × List ℕ)). IsTrue t ↔ Has xs (a, b)) view
    (subst (λ (p : List ℕ × List ℕ). IsTrue t ↔ Has (map pair keys) p)
    (ap₂ (λ (x y : List ℕ). (x, y)) first second) (found keys (q0, q1) t e))

pub fresh_in : (keys : List Key) (ps : List (List ℕ × List ℕ)) (q0 q1 : Bor (List ℕ)) (a b : List ℕ) (t : Bool)
    → map pair keys ≡ ps → q0.now ≡ a → q1.now ≡ b
    → t ≡ not (list_any (λ k. pointwise nat_eq q0.now k.0.now && pointwise nat_eq q1.now k.1.now) keys)
    → IsTrue t ↔ (¬ Has ps (a, b))
fresh_in keys ps q0 q1 a b t view first second e =
    subst (λ (xs : List (List ℕ × List ℕ)). IsTrue t ↔ (¬ Has xs (a, b))) view
    (subst (λ (p : List ℕ × List ℕ). IsTrue t ↔ (¬ Has (map pair keys) p))
    (ap₂ (λ (x y : List ℕ). (x, y)) first second) (fresh keys (q0, q1) t e))

-- who is in a set with one key more
pub inserted : (old new : List Key) (k : Key)
    → ((q : Key) → list_any (same_pair q) new ≡ cond (same_pair k q) true (list_any (same_pair q) old))
    → (p : List ℕ × List ℕ) → Has (map pair new) p ↔ ((pair k ≡ p) ⊎ Has (map pair old) p)
inserted old new k updates p =
    let q = key p.0 p.1 in
    let now = found new q (list_any (same_pair q) new) refl in
    let before = found old q (list_any (same_pair q) old) refl in (
      (λ h. elim (same_pair k q) as (λ b. same_pair k q ≡ b → cond b true (list_any (same_pair q) old) ≡ true
          → (pair k ≡ p) ⊎ Has (map pair old) p) [
            | true ↦ λ e t. inl (same_pairs k q e)
            | false ↦ λ e t. inr (before.0 t)
          ] refl (sym (updates q) ∙ now.1 h)),
      (λ h. now.0 (updates q ∙ elim h [
        | inl e ↦ ap (λ b. cond b true (list_any (same_pair q) old)) (pairs_same k q e)
        | inr m ↦ elim (same_pair k q) as (λ b. cond b true (list_any (same_pair q) old) ≡ true) [
          | true ↦ refl
          | false ↦ before.1 m
        ]
      ])),
    )

pub inserted_in : (old new : List Key) (ps : List (List ℕ × List ℕ)) (k0 k1 : Bor (List ℕ)) (a b : List ℕ)
    → map pair old ≡ ps → k0.now ≡ a → k1.now ≡ b
    → ((q : Key) → list_any (same_pair q) new ≡ cond (same_pair (k0, k1) q) true (list_any (same_pair q) old))
    → (p : List ℕ × List ℕ) → Has (map pair new) p ↔ (((a, b) ≡ p) ⊎ Has ps p)
inserted_in old new ps k0 k1 a b view first second updates p =
    subst (λ (xs : List (List ℕ × List ℕ)). Has (map pair new) p ↔ (((a, b) ≡ p) ⊎ Has xs p)) view
    (subst (λ (k : List ℕ × List ℕ). Has (map pair new) p ↔ ((k ≡ p) ⊎ Has (map pair old) p))
    (ap₂ (λ (x y : List ℕ). (x, y)) first second) (inserted old new (k0, k1) updates p))
