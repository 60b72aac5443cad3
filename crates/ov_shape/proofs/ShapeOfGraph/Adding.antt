-- The neighbours of one node, which are added to a set one after another.
use Rattle.std.proofs.Common.{◌≡◌, ◌↔◌, ◌⊎◌, ℕ, ◌+◌, ◌<◌, ◌≤◌, List, inl, inr, sym, subst, arith}
use Rattle.std.proofs.lemmas.Bool.{cases_lt, cases_eq}
use Rattle.ov_graph.specs.Links.{LinkGraph}
use Rattle.ov_graph.specs.Neighbours.{IsFirst, HoldsNoMore, AreLinkedAt, IsOutside}
use Rattle.ov_graph.specs.Row.{HasBit}
use Rattle.ov_shape.proofs.ShapeOfGraph.Counts.{bit_or_not}

-- the set has what it had before, and the places below `after` for which P holds
pub record IsAdding (P : ℕ → Type 0) (old set : List ℕ) (after : ℕ) : Type 0 where
  pub each : (q : ℕ) → HasBit set q ↔ (HasBit old q ⊎ ((q < after) × P q))

-- the set has what it had before, and the places with one more
abbrev pub IsPut : List ℕ → List ℕ → ℕ → Type 0
IsPut set new place = (q : ℕ) → HasBit new q ↔ ((q ≡ place) ⊎ HasBit set q)

pub adding_begun : (P : ℕ → Type 0) (old : List ℕ) → IsAdding P old old 0
adding_begun P old = record {
  each = λ q. (
    (λ h. inl h),
    (λ h. elim h [ inl k ↦ k | inr k ↦ let l = k.0 in absurd (omega (arith, l)) ]),
  );
}

adding_more : (P : ℕ → Type 0) (old set new : List ℕ) (after place : ℕ) → IsAdding P old set after → after ≤ place
    → P place → ((q : ℕ) → after ≤ q → q < place → P q → HasBit set q) → IsPut set new place
    → IsAdding P old new (place + 1)
adding_more P old set new after place before later holds passed put = record {
  each = λ q. (
    (λ h. elim ((put q).0 h) [
      | inl e ↦ inr (omega (arith, e), subst P (sym e) holds)
      | inr k ↦ elim ((before.each q).0 k) [
        | inl o ↦ inl o
        | inr n ↦ let l = n.0 in inr (omega (arith, l, later), n.1)
      ]
    ]),
    (λ h. elim h [
      | inl o ↦ (put q).1 (inr ((before.each q).1 (inl o)))
      | inr n ↦
          let m = n.0 in
          elim (cases_lt q after) [
            | inl l ↦ (put q).1 (inr ((before.each q).1 (inr (l, n.1))))
            | inr ge ↦ elim (cases_eq q place) [
              | inl e ↦ (put q).1 (inl e)
              | inr ne ↦ (put q).1 (inr (passed q ge (omega (arith, m, ne)) n.1))
            ]
          ]
    ]),
  );
}

adding_all : (P : ℕ → Type 0) (old set : List ℕ) (after : ℕ) → IsAdding P old set after
    → ((q : ℕ) → after ≤ q → P q → HasBit set q) → (q : ℕ) → HasBit set q ↔ (HasBit old q ⊎ P q)
adding_all P old set after all passed q = (
  (λ h. elim ((all.each q).0 h) [ inl o ↦ inl o | inr n ↦ inr n.1 ]),
  (λ h. elim h [
    | inl o ↦ (all.each q).1 (inl o)
    | inr n ↦ elim (cases_lt q after) [
      | inl l ↦ (all.each q).1 (inr (l, n))
      | inr ge ↦ passed q ge n
    ]
  ]),
)

-- a neighbour that is not outside of the set is in it
in_set : (g : LinkGraph) (p q : ℕ) (set : List ℕ) → AreLinkedAt g p q → (¬ IsOutside g p set q) → HasBit set q
in_set g p q set linked not_outside = elim (bit_or_not set q) [
  | inl h ↦ h
  | inr n ↦ absurd (not_outside (linked, n))
]

-- a neighbour that had not been reached is not reached yet, as no place from its own on was added
not_yet : (g : LinkGraph) (p q after : ℕ) (old set : List ℕ) → IsAdding (AreLinkedAt g p) old set after → after ≤ q
    → IsOutside g p old q → IsOutside g p set q
not_yet g p q after old set all ge outside = (
  outside.0,
  λ h. elim ((all.each q).0 h) [ inl o ↦ outside.1 o | inr n ↦ let l = n.0 in omega (arith, l, ge) ],
)

-- the neighbours of the node at place p below `after`: those that were reached or are now, and those that are new
pub record AreAdding (g : LinkGraph) (p : ℕ) (old set before next : List ℕ) (after : ℕ) : Type 0 where
  pub reached : IsAdding (AreLinkedAt g p) old set after
  pub new : IsAdding (IsOutside g p old) before next after

pub both_begun : (g : LinkGraph) (p : ℕ) (old before : List ℕ) → AreAdding g p old old before before 0
both_begun g p old before = record {
  reached = adding_begun (AreLinkedAt g p) old;
  new = adding_begun (IsOutside g p old) before;
}

pub both_more : (g : LinkGraph) (p : ℕ) (old set before next set1 next1 : List ℕ) (after place : ℕ)
    → AreAdding g p old set before next after → IsFirst (IsOutside g p set) after place → IsPut set set1 place
    → IsPut next next1 place → AreAdding g p old set1 before next1 (place + 1)
both_more g p old set before next set1 next1 after place all first put put_next = record {
  reached = adding_more (AreLinkedAt g p) old set set1 after place all.reached first.reached first.holds.0
      (λ q ge less linked. in_set g p q set linked (first.first q ge less)) put;
  new = adding_more (IsOutside g p old) before next next1 after place all.new first.reached
      (first.holds.0, λ o. first.holds.1 ((all.reached.each place).1 (inl o)))
      (λ q ge less outside. absurd (first.first q ge less (not_yet g p q after old set all.reached ge outside)))
      put_next;
}

-- after the last neighbour
pub reached_with : (g : LinkGraph) (p : ℕ) (old set before next : List ℕ) (after : ℕ)
    → AreAdding g p old set before next after → HoldsNoMore (IsOutside g p set) after → (q : ℕ)
    → HasBit set q ↔ (HasBit old q ⊎ AreLinkedAt g p q)
reached_with g p old set before next after all none =
    adding_all (AreLinkedAt g p) old set after all.reached (λ q ge linked. in_set g p q set linked (none q ge))

pub next_with : (g : LinkGraph) (p : ℕ) (old set before next : List ℕ) (after : ℕ)
    → AreAdding g p old set before next after → HoldsNoMore (IsOutside g p set) after → (q : ℕ)
    → HasBit next q ↔ (HasBit before q ⊎ IsOutside g p old q)
next_with g p old set before next after all none =
    adding_all (IsOutside g p old) before next after all.new
    (λ q ge outside. absurd (none q ge (not_yet g p q after old set all.reached ge outside)))
