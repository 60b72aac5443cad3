-- Lists of places into which links are taken one after another.
use Rattle.std.proofs.Common.{◌≡◌, ◌≢◌, ◌∙◌, ◌↔◌, ◌⊎◌, ℕ, zero, suc, ◌+◌, ◌<◌, List, [], ◌∷◌, ◌++◌, length, take}
use Rattle.std.proofs.Common.{set, get_or, slice_index, inl, inr, refl, sym, ap, subst, arith}
use Rattle.std.proofs.lemmas.Bool.{cases_order, cases_eq}
use Rattle.std.proofs.lemmas.List.{get_or-set_same, get_or-set_other, get_or_past, length-set, take_more}
use Rattle.ov_ids.specs.Members.{Has, Ordered, Ascends}
use Rattle.ov_ids.proofs.Members.{has_append_left, has_append_right, has_append_cases, has_place, all_member, ordered_at}
use Rattle.ov_graph.specs.Links.{IsGraph, Precedes, Linked}
use Rattle.ov_graph.specs.Code.Listed.{listed_at, AreListed}
use Rattle.ov_graph.proofs.BitRows.Read.{ordered_append}
use Rattle.ov_graph.proofs.GraphValues.OneMoreLink.{more_joined}

-- lists without places are the lists of no links
pub none_listed : (nodes : List ℕ) (lists : List (List ℕ)) → length lists ≡ length nodes
    → ((p : ℕ) → listed_at lists p ≡ []) → AreListed nodes [] lists
unfolding Linked
none_listed nodes lists each none = record {
  each = each;
  ascend = λ p. subst Ascends (sym (none p)) tt;
  places = λ p q. (
    (λ h. absurd (subst (λ (xs : List ℕ). Has xs q) (none p) h)),
    (λ m. absurd (elim m.2 [ inl h ↦ h | inr h ↦ h ])),
  );
}

-- one list more without places
pub one_empty : (lists : List (List ℕ)) → ((p : ℕ) → listed_at lists p ≡ []) → (p : ℕ)
    → listed_at (lists ++ [] ∷ []) p ≡ []
one_empty [] none zero = refl
one_empty [] none (suc p) = get_or_past [] p [] (omega arith)
one_empty (xs ∷ lists) none zero = none 0
one_empty (xs ∷ lists) none (suc p) = one_empty lists (λ q. none (suc q)) p

-- what is before an item of a list in an order
before_item : {X : Type 0} (R : X → X → Type 0) (xs : List X) (i : ℕ) (x d : X) → Ordered R xs → i < length xs
    → Has (take i xs) x → R x (get_or xs i d)
before_item R [] i x d up l h = absurd (omega (arith, l))
before_item R (y ∷ xs) zero x d up l h = absurd h
before_item R (y ∷ xs) (suc i) x d up l h = elim h [
  | inl e ↦ subst (λ z. R z (get_or xs i d)) e
      (all_member (R y) xs (get_or xs i d) up.0 (has_place xs i d (omega (arith, l))))
  | inr m ↦ before_item R xs i x d up.1 (omega (arith, l)) m
]

from_taken : {X : Type 0} (xs : List X) (i : ℕ) (x : X) → Has (take i xs) x → Has xs x
from_taken [] zero x h = absurd h
from_taken [] (suc i) x h = absurd h
from_taken (y ∷ xs) zero x h = absurd h
from_taken (y ∷ xs) (suc i) x h = elim h [ inl e ↦ inl e | inr m ↦ inr (from_taken xs i x m) ]

-- of two nodes the lower one stands at the lower place
place_below : (nodes : List ℕ) (r q : ℕ) → Ascends nodes → r < length nodes → q < length nodes
    → slice_index nodes r < slice_index nodes q → r < q
place_below nodes r q up rl ql less = elim (cases_order r q) [
  | inl e ↦ let s : slice_index nodes r ≡ slice_index nodes q = ap (λ (i : ℕ). slice_index nodes i) e in
      absurd (omega (arith, less, s))
  | inr (inl k) ↦ k
  | inr (inr k) ↦ let t : slice_index nodes q < slice_index nodes r =
      ordered_at (λ x y. x < y) nodes q r 0 up k rl in absurd (omega (arith, less, t))
]

-- a place is added at the end of a list whose places are below it
ascends_end : (xs : List ℕ) (q : ℕ) → Ascends xs → ((r : ℕ) → Has xs r → r < q) → Ascends (xs ++ q ∷ [])
ascends_end xs q up below = ordered_append (λ x y. x < y) xs (q ∷ []) up (tt, tt)
    (λ x y h k. elim k [ inl e ↦ subst (λ (z : ℕ). x < z) e (below x h) | inr n ↦ absurd n ])

-- a list after a place is added at the end of one list
listed_same : (lists : List (List ℕ)) (p q : ℕ) → p < length lists
    → listed_at (set lists p (listed_at lists p ++ q ∷ [])) p ≡ listed_at lists p ++ q ∷ []
listed_same lists p q l = get_or-set_same lists p (listed_at lists p ++ q ∷ []) [] l

listed_other : (lists : List (List ℕ)) (p q r : ℕ) → r ≢ p
    → listed_at (set lists p (listed_at lists p ++ q ∷ [])) r ≡ listed_at lists r
listed_other lists p q r d = get_or-set_other lists p r (listed_at lists p ++ q ∷ []) [] d

-- the places that are listed after that
one_added : (lists : List (List ℕ)) (p q : ℕ) → p < length lists → (r s : ℕ)
    → Has (listed_at (set lists p (listed_at lists p ++ q ∷ [])) r) s
    ↔ (((r ≡ p) × (s ≡ q)) ⊎ Has (listed_at lists r) s)
one_added lists p q l r s = elim (cases_eq r p) [
  | inl e ↦
      let w : listed_at (set lists p (listed_at lists p ++ q ∷ [])) r ≡ listed_at lists r ++ q ∷ [] =
      subst (λ (i : ℕ). listed_at (set lists p (listed_at lists p ++ q ∷ [])) i ≡ listed_at lists i ++ q ∷ []) (sym e)
      (listed_same lists p q l) in (
        (λ h. elim
            (has_append_cases (listed_at lists r) (q ∷ []) s (subst (λ (xs : List ℕ). Has xs s) w h)) [
              | inl k ↦ inr k
              | inr k ↦ elim k [ inl t ↦ inl (e, sym t) | inr n ↦ absurd n ]
            ]),
        (λ h. subst (λ (xs : List ℕ). Has xs s) (sym w) (elim h [
          | inl k ↦ has_append_right (listed_at lists r) (q ∷ []) s (inl (sym k.1))
          | inr k ↦ has_append_left (listed_at lists r) (q ∷ []) s k
        ])),
      )
  | inr d ↦
      let w = listed_other lists p q r d in (
        (λ h. inr (subst (λ (xs : List ℕ). Has xs s) w h)),
        (λ h. subst (λ (xs : List ℕ). Has xs s) (sym w) (elim h [ inl k ↦ absurd (d k.0) | inr k ↦ k ])),
      )
]

-- lists stay ascending where a place is added behind lower ones
still_ascend : (lists : List (List ℕ)) (p q : ℕ) → p < length lists → ((r : ℕ) → Ascends (listed_at lists r))
    → ((r : ℕ) → Has (listed_at lists p) r → r < q) → (r : ℕ)
    → Ascends (listed_at (set lists p (listed_at lists p ++ q ∷ [])) r)
still_ascend lists p q l up below r = elim (cases_eq r p) [
  | inl e ↦ subst (λ (i : ℕ). Ascends (listed_at (set lists p (listed_at lists p ++ q ∷ [])) i)) (sym e)
      (subst Ascends (sym (listed_same lists p q l)) (ascends_end (listed_at lists p) q (up p) below))
  | inr d ↦ subst Ascends (sym (listed_other lists p q r d)) (up r)
]

-- one link more is taken in
pub one_listed : (nodes : List ℕ) (links : List (ℕ × ℕ)) (lists lists1 lists2 : List (List ℕ)) (i p q : ℕ) (l : ℕ × ℕ)
    → IsGraph (record { nodes = nodes; links = links }) → i < length links → l ≡ get_or links i l
    → p < length nodes → q < length nodes → slice_index nodes p ≡ l.0 → slice_index nodes q ≡ l.1
    → lists1 ≡ set lists p (listed_at lists p ++ q ∷ []) → lists2 ≡ set lists1 q (listed_at lists1 q ++ p ∷ [])
    → AreListed nodes (take i links) lists → AreListed nodes (take (i + 1) links) lists2
unfolding Linked
one_listed nodes links lists lists1 lists2 i p q l graph il at pl ql e f one two listed =
    let up = graph.nodes_ascend in
    let less : l.0 < l.1 = (graph.joins l (subst (Has links) (sym at) (has_place links i l il))).0 in
    let before : (m : ℕ × ℕ) → Has (take i links) m → Precedes m l = λ m h.
    subst (Precedes m) (sym at) (before_item Precedes links i m l graph.links_ascend il h) in
    let rising : (a b : ℕ) → Has (take i links) (a, b) → a < b = λ a b h.
    (graph.joins (a, b) (from_taken links i (a, b) h)).0 in
    let count = listed.each in
    let apart : q ≢ p = λ s. let t : slice_index nodes q ≡ slice_index nodes p = ap (λ (k : ℕ). slice_index nodes k) s in
    omega (arith, less, e, f, t) in
    let length1 : length lists1 ≡ length lists = ap (λ (ls : List (List ℕ)). length ls) one
    ∙ length-set lists p (listed_at lists p ++ q ∷ []) in
    let p_in : p < length lists = omega (arith, pl, count) in
    let q_in : q < length lists1 = omega (arith, ql, count, length1) in
    let lower : (r : ℕ) → Has (listed_at lists p) r → r < q = λ r h.
    let m = (listed.places p r).0 h in
    place_below nodes r q up m.1 ql (elim m.2 [
      | inl k ↦ elim (before (slice_index nodes p, slice_index nodes r) k) [
        | inl c ↦ absurd (omega (arith, c, e))
        | inr c ↦ let d = c.1 in omega (arith, d, f)
      ]
      | inr k ↦ let c = rising (slice_index nodes r) (slice_index nodes p) k in omega (arith, c, e, f, less)
    ]) in
    let higher : (r : ℕ) → Has (listed_at lists q) r → r < p = λ r h.
    let m = (listed.places q r).0 h in
    place_below nodes r p up m.1 pl (elim m.2 [
      | inl k ↦
          let c = rising (slice_index nodes q) (slice_index nodes r) k in
          elim (before (slice_index nodes q, slice_index nodes r) k) [
            | inl d ↦ absurd (omega (arith, d, f, less))
            | inr d ↦ let s = d.0 in absurd (omega (arith, s, f, less))
          ]
      | inr k ↦ elim (before (slice_index nodes r, slice_index nodes q) k) [
        | inl d ↦ omega (arith, d, e)
        | inr d ↦ let s = d.1 in absurd (omega (arith, s, f))
      ]
    ]) in
    let first : (r s : ℕ) → Has (listed_at lists1 r) s ↔ (((r ≡ p) × (s ≡ q)) ⊎ Has (listed_at lists r) s) =
    subst (λ (ls : List (List ℕ)). (r s : ℕ) → Has (listed_at ls r) s
    ↔ (((r ≡ p) × (s ≡ q)) ⊎ Has (listed_at lists r) s)) (sym one) (one_added lists p q p_in) in
    let second : (r s : ℕ) → Has (listed_at lists2 r) s ↔ (((r ≡ q) × (s ≡ p)) ⊎ Has (listed_at lists1 r) s) =
    subst (λ (ls : List (List ℕ)). (r s : ℕ) → Has (listed_at ls r) s
    ↔ (((r ≡ q) × (s ≡ p)) ⊎ Has (listed_at lists1 r) s)) (sym two) (one_added lists1 q p q_in) in
    let up1 : (r : ℕ) → Ascends (listed_at lists1 r) =
    subst (λ (ls : List (List ℕ)). (r : ℕ) → Ascends (listed_at ls r)) (sym one)
    (still_ascend lists p q p_in listed.ascend lower) in
    let at_q : listed_at lists1 q ≡ listed_at lists q =
    ap (λ (ls : List (List ℕ)). listed_at ls q) one ∙ listed_other lists p q q apart in
    let up2 : (r : ℕ) → Ascends (listed_at lists2 r) =
    subst (λ (ls : List (List ℕ)). (r : ℕ) → Ascends (listed_at ls r)) (sym two)
    (still_ascend lists1 q p q_in up1 (λ r h. higher r (subst (λ (xs : List ℕ). Has xs r) at_q h))) in
    let all : take (i + 1) links ≡ take i links ++ (l.0, l.1) ∷ [] = take_more links i l il
    ∙ ap (λ (m : ℕ × ℕ). take i links ++ m ∷ []) (sym at) in
    subst (λ (ls : List (ℕ × ℕ)). AreListed nodes ls lists2) (sym all) (record {
      each = ap (λ (ls : List (List ℕ)). length ls) two ∙ length-set lists1 q (listed_at lists1 q ++ p ∷ []) ∙ length1
          ∙ count;
      ascend = up2;
      places = more_joined nodes (take i links) (λ r s. Has (listed_at lists r) s) (λ r s. Has (listed_at lists1 r) s)
          (λ r s. Has (listed_at lists2 r) s) p q l.0 l.1 up pl ql e f first second listed.places;
    })
