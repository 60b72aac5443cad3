-- The slots of a level, after one more settled piece was examined.
use Rattle.std.proofs.Common.{◌≡◌, ◌≢◌, inl, inr, ℕ, zero, suc, ◌<◌, List, [], ◌∷◌, ◌++◌, length, slice_get}
use Rattle.std.proofs.Common.{Option, Some, None}
use Rattle.std.proofs.Common.{map, refl, sym, ◌∙◌, subst, ap, arith}
use Rattle.std.proofs.Math.ListN.{set, replicate}
use Rattle.std.proofs.lemmas.List.{length-set, length-map}
use Rattle.std.proofs.Common.{get_or, Bor}
use Rattle.std.specs.Option.{option_copied, option_map}
use Rattle.std.proofs.lemmas.Option.{slice_get_within, slice_get-map, slice_get-get_or}
use Rattle.ov_ids.specs.Members.{Has, Ordered}
use Rattle.ov_ids.proofs.Members.{has_append_left, has_append_right, has_append_cases}
use Rattle.ov_fans.specs.Pieces.{level_of}
use Rattle.ov_fans.specs.declared.piece.Piece.{Piece}
use Rattle.ov_fans.specs.declared.piece_result.Found.TheVariants.{Paths}
use Rattle.ov_fans.specs.declared.piece_result.Settled.{Settled}
use Rattle.ov_even.specs.Order.{ComesBefore}
use Rattle.ov_even.specs.Code.Levels.{pieces_of_level}
use Rattle.ov_even.specs.Code.Slots.{StandsAt, AreSlotsOf}
use Rattle.ov_even.proofs.PieceOrder.Comparing.{before_once, number_cases}
use Rattle.ov_even.proofs.PieceOrder.Columns.{ordered_columns}
use Rattle.ov_even.proofs.PieceOrder.InOrder.{ordered_places}

-- the items of a list after a write
pub at_set_same : {X : Type 0} (xs : List X) (i : ℕ) (v : X) → i < length xs → slice_get (set xs i v) i ≡ Some v
at_set_same [] i v l = absurd (omega arith)
at_set_same (x ∷ xs) zero v l = refl
at_set_same (x ∷ xs) (suc i) v l = at_set_same xs i v (omega arith)

pub at_set_other : {X : Type 0} (xs : List X) (i j : ℕ) (v : X) → i ≢ j → slice_get (set xs i v) j ≡ slice_get xs j
at_set_other [] i j v n = refl
at_set_other (x ∷ xs) zero zero v n = absurd (n refl)
at_set_other (x ∷ xs) zero (suc j) v n = refl
at_set_other (x ∷ xs) (suc i) zero v n = refl
at_set_other (x ∷ xs) (suc i) (suc j) v n = at_set_other xs i j v (λ e. n (ap suc e))

-- a piece has one place only
pub one_place : (m : ℕ) (p : Piece) (i j : ℕ) → StandsAt m p i → StandsAt m p j → i ≡ j
one_place m p i j a b =
    let pieces = pieces_of_level m (level_of p) in
    let order : Ordered ComesBefore pieces = ordered_columns (level_of p) 0 m in
    elim (number_cases i j) [
      | inl l ↦ absurd (before_once p (ordered_places ComesBefore pieces i j p p order l a b))
      | inr n ↦ elim n [
        | inl e ↦ e
        | inr l ↦ absurd (before_once p (ordered_places ComesBefore pieces j i p p order l b a))
      ]
    ]

some_is : {X : Type 0} (x y : X) → Some x ≡ Some y → x ≡ y
some_is x y e = cc

-- the paths of a slot are those of one of these settled pieces
abbrev pub ComesFrom : ℕ → ℕ → List Settled → ℕ → List (List ℕ) → Type 0
ComesFrom m level seen place paths = (t : Settled) × Has seen t × (level_of t.piece ≡ level) × StandsAt m t.piece place
    × (t.found ≡ Paths paths)

-- the slot has paths
abbrev pub IsFilled : List (Option (List (List ℕ))) → ℕ → Type 0
IsFilled slots place = (others : List (List ℕ)) × (slice_get slots place ≡ Some (Some others))

from_more : (m level : ℕ) (seen : List Settled) (s : Settled) (place : ℕ) (paths : List (List ℕ))
    → ComesFrom m level seen place paths → ComesFrom m level (seen ++ s ∷ []) place paths
from_more m level seen s place paths r = (r.0, has_append_left seen (s ∷ []) r.0 r.1, r.2, r.3, r.4)

put_from : (m level : ℕ) (seen : List Settled) (slots : List (Option (List (List ℕ)))) (s : Settled)
    (paths found : List (List ℕ)) (place other : ℕ) → AreSlotsOf m level seen slots → level_of s.piece ≡ level
    → s.found ≡ Paths paths → StandsAt m s.piece place → place < length slots
    → slice_get (set slots place (Some paths)) other ≡ Some (Some found)
    → ComesFrom m level (seen ++ s ∷ []) other found
put_from m level seen slots s paths found place other are at has stands within e =
    let earlier : place ≢ other → ComesFrom m level (seen ++ s ∷ []) other found =
    λ n. from_more m level seen s other found
    (are.from other found (sym (at_set_other slots place other (Some paths) n) ∙ e)) in
    elim (number_cases place other) [
      | inl l ↦ earlier (λ d. omega (arith, d, l))
      | inr n ↦ elim n [
        | inl d ↦
            let same : Some (Some paths) ≡ Some (Some found) = sym (at_set_same slots place (Some paths) within)
            ∙ ap (slice_get (set slots place (Some paths))) d ∙ e in
            let f : paths ≡ found = some_is paths found (some_is (Some paths) (Some found) same) in (
              s,
              has_append_right seen (s ∷ []) s (inl refl),
              at,
              subst (StandsAt m s.piece) d stands,
              has ∙ ap (λ (x : List (List ℕ)). Paths x) f,
            )
        | inr l ↦ earlier (λ d. omega (arith, d, l))
      ]
    ]

stays_filled : (slots : List (Option (List (List ℕ)))) (paths : List (List ℕ)) (place other : ℕ) → place < length slots
    → IsFilled slots other → IsFilled (set slots place (Some paths)) other
stays_filled slots paths place other within filled = elim (number_cases place other) [
  | inl l ↦ (filled.0, at_set_other slots place other (Some paths) (λ d. omega (arith, d, l)) ∙ filled.1)
  | inr n ↦ elim n [
    | inl d ↦ (
      paths,
      subst (λ (i : ℕ). slice_get (set slots place (Some paths)) i ≡ Some (Some paths)) d
          (at_set_same slots place (Some paths) within),
    )
    | inr l ↦ (filled.0, at_set_other slots place other (Some paths) (λ d. omega (arith, d, l)) ∙ filled.1)
  ]
]

-- the place of a piece of the level has a slot
pub place_within : {X : Type 0} (m level : ℕ) (slots : List X) (p : Piece) (place : ℕ)
    → length slots ≡ length (pieces_of_level m level) → level_of p ≡ level → StandsAt m p place → place < length slots
place_within m level slots p place size at stands =
    subst (λ (n : ℕ). place < n) (ap (λ (l : ℕ). length (pieces_of_level m l)) at ∙ sym size)
    (slice_get_within (pieces_of_level m (level_of p)) place p stands)

pub slots_put : (m level : ℕ) (seen : List Settled) (slots : List (Option (List (List ℕ)))) (s : Settled)
    (paths : List (List ℕ)) (place : ℕ) → AreSlotsOf m level seen slots → level_of s.piece ≡ level
    → s.found ≡ Paths paths → StandsAt m s.piece place
    → AreSlotsOf m level (seen ++ s ∷ []) (set slots place (Some paths))
slots_put m level seen slots s paths place are at found stands =
    let within = place_within m level slots s.piece place are.size at stands in record {
      size = length-set slots place (Some paths) ∙ are.size;
      from = λ other found' e. put_from m level seen slots s paths found' place other are at found stands within e;
      all = λ t found' other h at' e stands'. elim (has_append_cases seen (s ∷ []) t h) [
        | inl k ↦ stays_filled slots paths place other within (are.all t found' other k at' e stands')
        | inr k ↦ elim k [
          | inl d ↦
              let here : place ≡ other = one_place m t.piece place other
              (subst (λ (x : Settled). StandsAt m x.piece place) d stands) stands' in (
                paths,
                subst (λ (i : ℕ). slice_get (set slots place (Some paths)) i ≡ Some (Some paths)) here
                    (at_set_same slots place (Some paths) within),
              )
          | inr k ↦ absurd k
        ]
      ];
    }

-- a piece of another level, or without paths, changes no slot
pub slots_pass : (m level : ℕ) (seen : List Settled) (slots : List (Option (List (List ℕ)))) (s : Settled)
    → AreSlotsOf m level seen slots → (level_of s.piece ≡ level → (paths : List (List ℕ)) → s.found ≢ Paths paths)
    → AreSlotsOf m level (seen ++ s ∷ []) slots
slots_pass m level seen slots s are none = record {
  size = are.size;
  from = λ place paths e. from_more m level seen s place paths (are.from place paths e);
  all = λ t paths place h at e stands. elim (has_append_cases seen (s ∷ []) t h) [
    | inl k ↦ are.all t paths place k at e stands
    | inr k ↦ elim k [
      | inl d ↦ absurd (none (ap (λ (x : Settled). level_of x.piece) d ∙ at) paths
          (ap (λ (x : Settled). x.found) d ∙ e))
      | inr k ↦ absurd k
    ]
  ];
}

-- before the first piece no slot is filled
pub slots_none : (m level : ℕ) (slots : List (Option (List (List ℕ)))) → length slots ≡ length (pieces_of_level m level)
    → ((place : ℕ) → ¬ IsFilled slots place) → AreSlotsOf m level [] slots
slots_none m level slots size empty = record {
  size = size;
  from = λ place paths e. absurd (empty place (paths, e));
  all = λ t paths place h at e stands. absurd h;
}

pub none_filled : {X : Type 0} (f : X → Option (List (List ℕ))) (x : X) → f x ≡ None → (n place : ℕ)
    → ¬ IsFilled (map f (replicate n x)) place
none_filled f x e zero place filled = let d = filled.1 in cc
none_filled f x e (suc n) zero filled = let d = filled.1 in cc
none_filled f x e (suc n) (suc place) filled = none_filled f x e n place filled

pub none_alone : {X : Type 0} (P : Option X → Type 0) → ((z : X) → P (Some z) → ⊥) → (y : Option X) → P y → y ≡ None
none_alone P none None h = refl
none_alone P none (Some z) h = absurd (none z h)

-- the value read from a slot is the item at that place
read_slot : {X : Type 0} (f : X → Option (List (List ℕ))) (slots : List X) (place : ℕ) (x : X) (paths : List (List ℕ))
    → slice_get (map f slots) place ≡ Some (Some paths) → x ≡ get_or slots place x → f x ≡ Some paths
read_slot f slots place x paths e is =
    let a : Some (Some paths) ≡ option_map f (slice_get slots place) = sym e ∙ slice_get-map f slots place in
    let b : slice_get slots place ≡ Some x = slice_get-get_or slots place x (subst (λ n. place < n) (length-map slots f)
    (slice_get_within (map f slots) place (Some paths) e)) ∙ ap Some (sym is) in
    some_is (f x) (Some paths) (sym (a ∙ ap (option_map f) b))

pub in_slot : (slots : List (Option (Bor (List (List ℕ))))) (place : ℕ) (x : Option (Bor (List (List ℕ))))
    (found : Bor (List (List ℕ))) (paths : List (List ℕ)) (P : List (List ℕ) → Type 0)
    → slice_get (map (λ slot. option_copied slot) slots) place ≡ Some (Some paths) → x ≡ get_or slots place x
    → x ≡ Some found → P paths → P found.now
in_slot slots place x found paths P e is d h =
    let a : option_copied x ≡ Some paths = read_slot (λ slot. option_copied slot) slots place x paths e is in
    let b : Some found.now ≡ Some paths = sym (ap (λ o. option_copied o) d) ∙ a in
    subst P (sym (some_is found.now paths b)) h

pub not_none : (slots : List (Option (Bor (List (List ℕ))))) (place : ℕ) (x : Option (Bor (List (List ℕ))))
    (paths : List (List ℕ)) → slice_get (map (λ slot. option_copied slot) slots) place ≡ Some (Some paths)
    → x ≡ get_or slots place x → ¬ (x ≡ None)
not_none slots place x paths e is d =
    let a : option_copied x ≡ Some paths = read_slot (λ slot. option_copied slot) slots place x paths e is in
    let b : None ≡ Some paths = sym (ap (λ o. option_copied o) d) ∙ a in
    cc
