-- The links of a copy, key by key.
use Rattle.std.proofs.Common.{◌≡◌, ◌≢◌, ◌∙◌, ◌↔◌, ◌+◌, ◌<◌, ◌≤◌, ◌++◌, inl, inr, List, [], ◌∷◌, ℕ, map, sym, ap, subst}
use Rattle.std.proofs.Common.{refl, arith, get_or, length, eq-or-lt_of_le}
use Rattle.std.proofs.lemmas.Bool.{cases_lt}
use Rattle.ov_ids.specs.Members.{Has, Ascends, Ordered}
use Rattle.ov_ids.proofs.Members.{all_from_members, all_member, has_append_cases, has_append_left, has_append_right}
use Rattle.ov_ids.proofs.Members.{has_place}
use Rattle.ov_graph.specs.Links.{LinkGraph, Precedes}
use Rattle.ov_graph.specs.Neighbours.{HoldsNoMore, IsFirst, IsWithin}
use Rattle.ov_graph.specs.Row.{HasBit}
use Rattle.ov_scatter.specs.Code.Keys.{AreKeysAbove, AreLinksByKey, AreSomeAbove, HasKeysFrom, IsKeyAbove}
use Rattle.ov_scatter.specs.Code.Keys.{IsLinkByKey, linked_to}

-- ---- the keys above one, neighbour by neighbour

pub above_begun : (g : LinkGraph) (keys : List ℕ) (p : ℕ) → AreSomeAbove g keys p 0 []
above_begun g keys p j = ((λ h. absurd h), (λ h. let low = h.1 in absurd (omega (arith, low))))

-- a neighbour whose key is above is left
still_left : (g : LinkGraph) (keys : List ℕ) (p : ℕ) (left : List ℕ) (q j : ℕ)
    → HasKeysFrom g keys (get_or keys p 0 + 1) left → IsKeyAbove g keys p q j → IsWithin g p left q
still_left g keys p left q j has own =
    let up = own.above in
    let key = own.key in (own.linked, (has q own.linked.0).1 (omega (arith, up, key)))

-- no place below the next neighbour is that of one whose key is above
below_next : (g : LinkGraph) (keys : List ℕ) (p : ℕ) (left : List ℕ) (from next q j : ℕ)
    → HasKeysFrom g keys (get_or keys p 0 + 1) left → IsFirst (IsWithin g p left) from next → q < next
    → IsKeyAbove g keys p q j → q < from
below_next g keys p left from next q j has at low own = elim (cases_lt q from) [
  | inl l ↦ l
  | inr l ↦ absurd (at.first q l low (still_left g keys p left q j has own))
]

-- the next neighbour that is left
pub above_more : (g : LinkGraph) (keys : List ℕ) (p : ℕ) (left : List ℕ) (from next : ℕ) (found : List ℕ)
    → HasKeysFrom g keys (get_or keys p 0 + 1) left → IsFirst (IsWithin g p left) from next
    → AreSomeAbove g keys p from found → AreSomeAbove g keys p (next + 1) (found ++ get_or keys next 0 ∷ [])
above_more g keys p left from next found has at s j = (
  (λ h. elim (has_append_cases found (get_or keys next 0 ∷ []) j h) [
    | inl k ↦ let m = (s j).0 k in
        let low = m.1 in
        let le = at.reached in (m.0, omega (arith, low, le), m.2)
    | inr k ↦ elim k [
      | inl e ↦ (
        next,
        omega arith,
        record {
          linked = at.holds.0;
          key = e;
          above = let up = (has next at.holds.0.0).0 at.holds.1 in omega (arith, up, e);
        },
      )
      | inr none ↦ absurd none
    ]
  ]),
  (λ h. let low = h.1 in let le : h.0 ≤ next = omega (arith, low) in elim (eq-or-lt_of_le le) [
    | inl e ↦ has_append_right found (get_or keys next 0 ∷ []) j (inl (ap (λ x. get_or keys x 0) (sym e) ∙ h.2.key))
    | inr l ↦ has_append_left found (get_or keys next 0 ∷ []) j
        ((s j).1 (h.0, below_next g keys p left from next h.0 j has at l h.2, h.2))
  ]),
)

-- there is no further neighbour
pub above_all : (g : LinkGraph) (keys : List ℕ) (p : ℕ) (left : List ℕ) (from : ℕ) (found : List ℕ)
    → HasKeysFrom g keys (get_or keys p 0 + 1) left → HoldsNoMore (IsWithin g p left) from
    → AreSomeAbove g keys p from found → AreSomeAbove g keys p (length g.nodes) found
above_all g keys p left from found has none s j = (
  (λ h. let m = (s j).0 h in (m.0, m.2.linked.0, m.2)),
  (λ h. elim (cases_lt h.0 from) [
    | inl l ↦ (s j).1 (h.0, l, h.2)
    | inr l ↦ absurd (none h.0 l (still_left g keys p left h.0 j has h.2))
  ]),
)

pub above_sorted : (g : LinkGraph) (keys : List ℕ) (p : ℕ) (found new : List ℕ)
    → AreSomeAbove g keys p (length g.nodes) found → Ascends new → ((j : ℕ) → Has new j ↔ Has found j)
    → AreKeysAbove g keys p new
above_sorted g keys p found new s up same = record {
  ascend = up;
  each = λ j. (
    (λ h. let m = (s j).0 ((same j).0 h) in (m.0, m.2)),
    (λ h. (same j).1 ((s j).1 (h.0, h.1.linked.0, h.1))),
  );
}

-- ---- the places that are left

-- the place of the next key is left no more
pub left_more : (g : LinkGraph) (keys : List ℕ) (key p : ℕ) (left new : List ℕ)
    → ((q : ℕ) → q < length g.nodes → get_or keys q 0 ≡ key → q ≡ p) → get_or keys p 0 ≡ key
    → ((q : ℕ) → HasBit new q ↔ ((q ≢ p) × HasBit left q)) → HasKeysFrom g keys key left
    → HasKeysFrom g keys (get_or keys p 0 + 1) new
left_more g keys key p left new one at cleared has q low = (
  (λ h. let m = (cleared q).0 h in
      let le = (has q low).0 m.1 in
      let differ : ¬ (get_or keys q 0 ≡ key) = λ e. m.0 (one q low e) in omega (arith, le, differ, at)),
  (λ up. (cleared q).1 (
    (λ e. let same : get_or keys q 0 ≡ get_or keys p 0 = ap (λ x. get_or keys x 0) e in omega (arith, up, same)),
    (has q low).1 (omega (arith, up, at)),
  )),
)

-- no place has the next key
pub left_same : (g : LinkGraph) (keys : List ℕ) (key : ℕ) (left : List ℕ) → length keys ≡ length g.nodes
    → ¬ Has keys key → HasKeysFrom g keys key left → HasKeysFrom g keys (key + 1) left
left_same g keys key left count none has q low = (
  (λ h. let le = (has q low).0 h in
      let differ : ¬ (get_or keys q 0 ≡ key) = λ e. none (subst (Has keys) e
      (has_place keys q 0 (omega (arith, low, count)))) in omega (arith, le, differ)),
  (λ up. (has q low).1 (omega (arith, up))),
)

-- ---- links from one key

-- the members of a list of images are the images of members
has_map : {X Y : Type 0} (f : X → Y) (xs : List X) (x : X) → Has xs x → Has (map f xs) (f x)
has_map f [] x h = absurd h
has_map f (y ∷ ys) x h = elim h [ inl e ↦ inl (ap f e) | inr k ↦ inr (has_map f ys x k) ]

linked_from : (key : ℕ) (above : List ℕ) (l : ℕ × ℕ) → Has (linked_to key above) l → (l.0 ≡ key) × Has above l.1
linked_from key [] l h = absurd h
linked_from key (j ∷ above) l h = elim h [
  | inl e ↦ (ap (λ (m : ℕ × ℕ). m.0) (sym e), inl (ap (λ (m : ℕ × ℕ). m.1) e))
  | inr k ↦ let r = linked_from key above l k in (r.0, inr r.1)
]

linked_ascend : (key : ℕ) (above : List ℕ) → Ascends above → Ordered Precedes (linked_to key above)
linked_ascend key [] up = tt
linked_ascend key (j ∷ above) up = (
  all_from_members (Precedes (key, j)) (linked_to key above) (λ l h. let m = linked_from key above l h in
      inr (sym m.0, all_member (λ i. j < i) above l.1 up.0 m.1)),
  linked_ascend key above up.1,
)

-- a list in order behind one whose items all come before
ordered_append : {X : Type 0} (R : X → X → Type 0) (xs ys : List X) → Ordered R xs → Ordered R ys
    → ((x y : X) → Has xs x → Has ys y → R x y) → Ordered R (xs ++ ys)
ordered_append R [] ys up on between = on
ordered_append R (x ∷ xs) ys up on between = (
  all_from_members (R x) (xs ++ ys) (λ y h. elim (has_append_cases xs ys y h) [
    | inl k ↦ all_member (R x) xs y up.0 k
    | inr k ↦ between x y (inl refl) k
  ]),
  ordered_append R xs ys up.1 on (λ z y h k. between z y (inr h) k),
)

pub links_begun : (g : LinkGraph) (keys : List ℕ) → AreLinksByKey g keys 0 []
links_begun g keys = record {
  ascend = tt;
  each = λ l. ((λ h. absurd h), (λ h. let low = h.0 in absurd (omega (arith, low))));
}

-- the next key is that of a place
pub links_more : (g : LinkGraph) (keys : List ℕ) (key p : ℕ) (above : List ℕ) (links : List (ℕ × ℕ))
    → ((q : ℕ) → q < length g.nodes → get_or keys q 0 ≡ key → q ≡ p) → p < length g.nodes → get_or keys p 0 ≡ key
    → AreKeysAbove g keys p above → AreLinksByKey g keys key links
    → AreLinksByKey g keys (key + 1) (links ++ linked_to key above)
links_more g keys key p above links one low at all s = record {
  ascend = ordered_append Precedes links (linked_to key above) s.ascend (linked_ascend key above all.ascend)
      (λ l m h k. inl (subst (λ x. l.0 < x) (sym (linked_from key above m k).0) ((s.each l).0 h).0));
  each = λ l. (
    (λ h. elim (has_append_cases links (linked_to key above) l h) [
      | inl k ↦ let m = (s.each l).0 k in let less = m.0 in (omega (arith, less), m.1)
      | inr k ↦ let m = linked_from key above l k in
          let same = m.0 in
          let next = (all.each l.1).0 m.1 in
          (omega (arith, same), (p, next.0, low, at ∙ sym m.0, next.1))
    ]),
    (λ h. let less = h.0 in let le : l.0 ≤ key = omega (arith, less) in elim (eq-or-lt_of_le le) [
      | inl e ↦ has_append_right links (linked_to key above) l (own l e h.1)
      | inr k ↦ has_append_left links (linked_to key above) l ((s.each l).1 (k, h.1))
    ]),
  );
}
  where
    own : (l : ℕ × ℕ) → l.0 ≡ key → IsLinkByKey g keys l → Has (linked_to key above) l
    own l e h =
        let here = one h.0 h.2 (h.3 ∙ e) in
        let next : IsKeyAbove g keys p h.1 l.1 = subst (λ x. IsKeyAbove g keys x h.1 l.1) here h.4 in
        let there = has_map (λ j. (key, j)) above l.1 ((all.each l.1).1 (h.1, next)) in
        subst (λ (x : ℕ). Has (linked_to key above) (x, l.1)) (sym e) there

-- the next key is that of no place
pub links_same : (g : LinkGraph) (keys : List ℕ) (key : ℕ) (links : List (ℕ × ℕ)) → length keys ≡ length g.nodes
    → ¬ Has keys key → AreLinksByKey g keys key links → AreLinksByKey g keys (key + 1) links
links_same g keys key links count none s = record {
  ascend = s.ascend;
  each = λ l. (
    (λ h. let m = (s.each l).0 h in let less = m.0 in (omega (arith, less), m.1)),
    (λ h. let less = h.0 in let le : l.0 ≤ key = omega (arith, less) in elim (eq-or-lt_of_le le) [
      | inl e ↦ let low = h.1.2 in absurd (none (subst (Has keys) (h.1.3 ∙ e)
          (has_place keys h.1.0 0 (omega (arith, low, count)))))
      | inr k ↦ (s.each l).1 (k, h.1)
    ]),
  );
}
