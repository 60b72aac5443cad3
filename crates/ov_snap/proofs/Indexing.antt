-- Where a report stands among the places of all, which are in the order of moments and groups.
use Rattle.std.proofs.Common.{◌≡◌, ◌⊎◌, ℕ, zero, suc, ◌+◌, ◌-◌, ◌/◌, ◌<◌, ◌≤◌, List, [], ◌∷◌, ◌++◌, length, take}
use Rattle.std.proofs.Common.{length-append, drop, get_or, slice_index, inl, inr, refl, sym, ap, ap₂, ◌∙◌, subst, arith}
use Rattle.std.proofs.lemmas.Bool.{cases_eq, cases_lt}
use Rattle.std.proofs.lemmas.Cmp.{then_total, on_total, nat_cmp_total, nat_list_cmp_total}
use Rattle.std.specs.Cmp.{IsTotalOrder}
use Rattle.std.specs.FinMap.{nat_cmp-IsAntisymmetric, slice_cmp-IsAntisymmetric}
use Rattle.std.specs.List.{insert}
use Rattle.std.specs.Ordering.{ordering_then, ordering_reverse}
use Rattle.std.specs.declared.cmp.Ordering.{Ordering}
use Rattle.std.specs.declared.cmp.Ordering.TheVariants.{Less, Equal, Greater}
use Rattle.ov_ids.specs.Members.{Has, Ordered}
use Rattle.ov_ids.proofs.Members.{all_member, all_from_members, has_append_cases, has_append_left, has_append_right}
use Rattle.ov_ids.proofs.Members.{has_place, place_of, place_in_take, has_from_take, ordered_at}
use Rattle.ov_snap.specs.Code.Index.{AreGreater, AreInOrder, AreLess, IsGap, ReportKey, ReportPrecedes, key_at, key_cmp}
use Rattle.ov_snap.specs.Code.Index.{key_of}
use Rattle.ov_snap.specs.ReportState.{ReportState}

-- THE ORDER OF KEYS

key_total : IsTotalOrder key_cmp
key_total = then_total (on_total (λ (k : ReportKey). k.0) nat_cmp_total)
    (on_total (λ (k : ReportKey). k.1) nat_list_cmp_total)

-- the two parts of keys that tie are the same
tied : (r s : Ordering) → ordering_then r s ≡ Equal → (r ≡ Equal) × (s ≡ Equal)
tied Less s e = absurd cc
tied Equal s e = (refl, e)
tied Greater s e = absurd cc

pub key_same : (k l : ReportKey) → key_cmp k l ≡ Equal → k ≡ l
key_same k l e =
    let both = tied _ _ e in
    ap₂ (λ (n : ℕ) (q : List ℕ). (n, q)) (nat_cmp-IsAntisymmetric k.0 l.0 both.0)
    (slice_cmp-IsAntisymmetric nat_cmp-IsAntisymmetric k.1 l.1 both.1)

turned : (k l : ReportKey) → key_cmp k l ≡ Less → key_cmp l k ≡ Greater
turned k l e = key_total.antisymm l k ∙ ap ordering_reverse e

turned_back : (k l : ReportKey) → key_cmp k l ≡ Greater → key_cmp l k ≡ Less
turned_back k l e = key_total.antisymm l k ∙ ap ordering_reverse e

less_is_not_greater : (o : Ordering) → o ≡ Less → o ≡ Greater → ⊥
less_is_not_greater o l g = let e : Less ≡ Greater = sym l ∙ g in absurd cc

not_below_itself : (k : ReportKey) → ¬ (key_cmp k k ≡ Less)
not_below_itself k l = less_is_not_greater (key_cmp k k) l (turned k k l)

not_above_itself : (k : ReportKey) → ¬ (key_cmp k k ≡ Greater)
not_above_itself k g = less_is_not_greater (key_cmp k k) (turned_back k k g) g

-- KEYS AT PLACES

pub key_read : (reports : List ReportState) (p : ℕ) (d : ReportState) → p < length reports
    → key_at reports p ≡ key_of (get_or reports p d)
key_read [] p d l = absurd (omega arith)
key_read (r ∷ rs) zero d l = refl
key_read (r ∷ rs) (suc p) d l = key_read rs p d (omega arith)

key_before : (reports more : List ReportState) (p : ℕ) → p < length reports
    → key_at (reports ++ more) p ≡ key_at reports p
key_before [] more p l = absurd (omega arith)
key_before (r ∷ rs) more zero l = refl
key_before (r ∷ rs) more (suc p) l = key_before rs more p (omega arith)

key_last : (reports : List ReportState) (r : ReportState) → key_at (reports ++ r ∷ []) (length reports) ≡ key_of r
key_last [] r = refl
key_last (x ∷ rs) r = key_last rs r

stands : (reports : List ReportState) (r : ReportState) → Has reports r
    → (p : ℕ) × (p < length reports) × (key_at reports p ≡ key_of r)
stands [] r h = absurd h
stands (x ∷ rs) r h = elim h [
  | inl e ↦ (0, omega arith, ap key_of e)
  | inr k ↦ let s = stands rs r k in (suc s.0, omega (arith, s.1), s.2)
]

-- HALVING

module _ (reports : List ReportState) (places : List ℕ) (key : ReportKey) where
  pub less_more : (middle : ℕ) → AreInOrder reports places → middle < length places
      → key_cmp (key_at reports (slice_index places middle)) key ≡ Less → AreLess reports places key (middle + 1)
  less_more middle h inside less i l = elim (cases_eq i middle) [
    | inl e ↦ subst (λ (n : ℕ). key_cmp (key_at reports (slice_index places n)) key ≡ Less) (sym e) less
    | inr ne ↦ key_total.trans (key_at reports (slice_index places i)) (key_at reports (slice_index places middle)) key
        (ordered_at (ReportPrecedes reports) places i middle 0 h.order (omega arith) inside) less
  ]

  pub greater_more : (middle : ℕ) → AreInOrder reports places
      → key_cmp (key_at reports (slice_index places middle)) key ≡ Greater → AreGreater reports places key middle
  greater_more middle h greater i le inside = elim (cases_eq i middle) [
    | inl e ↦ subst (λ (n : ℕ). key_cmp (key_at reports (slice_index places n)) key ≡ Greater) (sym e) greater
    | inr ne ↦ turned key (key_at reports (slice_index places i))
        (key_total.trans key (key_at reports (slice_index places middle)) (key_at reports (slice_index places i))
        (turned_back (key_at reports (slice_index places middle)) key greater)
        (ordered_at (ReportPrecedes reports) places middle i 0 h.order (omega arith) inside))
  ]

  -- what is left to search, from low up to high: the reports before it are of lesser keys, those behind it of greater
  pub record Remains (low high : ℕ) : Type 0 where
    pub order : low ≤ high
    pub inside : high ≤ length places
    pub less : AreLess reports places key low
    pub greater : AreGreater reports places key high

  -- the middle of what is left is a place
  pub middle_within : (low high : ℕ) → Remains low high → low < high → low + (high - low) / 2 < length places
  middle_within low high left more = let inside = left.inside in omega (arith, inside, more)

  -- the upper half is left
  pub upper_half : (low high : ℕ) → AreInOrder reports places → Remains low high → low < high
      → key_cmp (key_at reports (slice_index places (low + (high - low) / 2))) key ≡ Less
      → Remains (low + (high - low) / 2 + 1) high
  upper_half low high h left more less = record {
    order = omega (arith, more);
    inside = left.inside;
    less = less_more (low + (high - low) / 2) h (middle_within low high left more) less;
    greater = left.greater;
  }

  -- the lower half is left
  pub lower_half : (low high : ℕ) → AreInOrder reports places → Remains low high → low < high
      → key_cmp (key_at reports (slice_index places (low + (high - low) / 2))) key ≡ Greater
      → Remains low (low + (high - low) / 2)
  lower_half low high h left more greater = let inside = left.inside in record {
    order = omega arith;
    inside = omega (arith, inside, more);
    less = left.less;
    greater = greater_more (low + (high - low) / 2) h greater;
  }

  -- where there is a gap, no report has the key
  pub none_in_gap : (at : ℕ) → AreInOrder reports places → IsGap reports places key at → (r : ReportState)
      → Has reports r → ¬ (key_of r ≡ key)
  none_in_gap at h gap r k same =
      let s = stands reports r k in
      let i = place_of places s.0 (h.every s.0 s.1) in
      let here : key_at reports (slice_index places i.0) ≡ key = ap (key_at reports) i.2 ∙ s.2 ∙ same in
      elim (cases_lt i.0 at) [
        | inl l ↦ not_below_itself key (ap (λ (x : ReportKey). key_cmp x key) (sym here) ∙ gap.less i.0 l)
        | inr ge ↦ not_above_itself key (ap (λ (x : ReportKey). key_cmp x key) (sym here) ∙ gap.greater i.0 ge i.1)
      ]

-- what the comparison with the report at a place says
pub compared : (reports : List ReportState) (p : ℕ) (r : ReportState) (k : ReportKey) (o is : Ordering)
    → p < length reports
    → r ≡ get_or reports p r → o ≡ key_cmp (key_of r) k → o ≡ is → key_cmp (key_at reports p) k ≡ is
compared reports p r k o is inside read e same =
    ap (λ (x : ReportKey). key_cmp x k) (key_read reports p r inside ∙ ap key_of (sym read)) ∙ sym e ∙ same

-- a report with the key of a place stands there
pub found_there : (l m n : List ReportState) (p : ℕ) (r : ReportState) (k : ReportKey) → l ≡ m → m ≡ n
    → (p < length l) × (key_at l p ≡ k) → r ≡ get_or m p r → Has n r × (key_of r ≡ k)
found_there l m n p r k e f h read =
    let g = subst (λ (x : List ReportState). (p < length x) × (key_at x p ≡ k)) e h in (
      subst (λ (x : List ReportState). Has x r) f (subst (Has m) (sym read) (has_place m p r g.0)),
      ap key_of read ∙ sym (key_read m p r g.0) ∙ g.1,
    )

pub not_there : (l m n : List ReportState) (ps qs : List ℕ) (k : ReportKey) (at : ℕ) → l ≡ m → m ≡ n → ps ≡ qs
    → AreInOrder m qs → IsGap l ps k at → (r : ReportState) → Has n r → ¬ (key_of r ≡ k)
not_there l m n ps qs k at e f g h gap r has =
    none_in_gap m qs k at h (subst (λ (x : List ReportState). IsGap x qs k at) e
    (subst (λ (x : List ℕ). IsGap l x k at) g gap))
    r (subst (λ (x : List ReportState). Has x r) (sym f) has)

-- where no report has a key, no place has it
pub not_taken : (l m n : List ReportState) (p : ℕ) (r : ReportState) (k : ReportKey) → l ≡ m → m ≡ n
    → (p < length l) × (key_at l p ≡ k) → k ≡ key_of r → ((x : ReportState) → Has n x → ¬ (key_of x ≡ key_of r)) → ⊥
not_taken l m n p r k e f h own free =
    let there = found_there l m n p (get_or m p r) k e f h (sym (same_item m p r (get_or m p r)
    (subst (λ (x : List ReportState). p < length x) e h.0))) in
    free (get_or m p r) there.0 (there.1 ∙ own)
  where
    same_item : (xs : List ReportState) (i : ℕ) (c d : ReportState) → i < length xs → get_or xs i d ≡ get_or xs i c
    same_item [] i c d l = absurd (omega arith)
    same_item (x ∷ xs) zero c d l = refl
    same_item (x ∷ xs) (suc i) c d l = same_item xs i c d (omega arith)

-- ONE MORE

place_in_drop : (xs : List ℕ) (k x : ℕ) → Has (drop k xs) x → (i : ℕ) × (k ≤ i) × (i < length xs) × (get_or xs i 0 ≡ x)
place_in_drop xs zero x h = let r = place_of xs x h in (r.0, omega arith, r.1, r.2)
place_in_drop [] (suc k) x h = absurd h
place_in_drop (y ∷ ys) (suc k) x h = let r = place_in_drop ys k x h in
    (suc r.0, omega (arith, r.1), omega (arith, r.2), r.3)

has_from_drop : (xs : List ℕ) (k x : ℕ) → Has (drop k xs) x → Has xs x
has_from_drop xs k x h = let r = place_in_drop xs k x h in subst (Has xs) r.3 (has_place xs r.0 0 r.2)

-- a member stands before a place or from it on
parted : (xs : List ℕ) (k x : ℕ) → Has xs x → Has (take k xs) x ⊎ Has (drop k xs) x
parted xs zero x h = inr h
parted [] (suc k) x h = absurd h
parted (y ∷ ys) (suc k) x h = elim h [
  | inl e ↦ inl (inl e)
  | inr m ↦ elim (parted ys k x m) [ inl f ↦ inl (inr f) | inr l ↦ inr l ]
]

-- what stands in one order stands in another that agrees on its members
ordered_alike : (R S : ℕ → ℕ → Type 0) (xs : List ℕ) → ((x y : ℕ) → Has xs x → Has xs y → R x y → S x y) → Ordered R xs
    → Ordered S xs
ordered_alike R S [] same up = tt
ordered_alike R S (x ∷ xs) same up = (
  all_from_members (S x) xs (λ y h. same x y (inl refl) (inr h) (all_member (R x) xs y up.0 h)),
  ordered_alike R S xs (λ y z h k. same y z (inr h) (inr k)) up.1,
)

-- one more item between those that come before it and those that come after it
ordered_between : (R : ℕ → ℕ → Type 0) (xs : List ℕ) (k y : ℕ) → Ordered R xs → ((x : ℕ) → Has (take k xs) x → R x y)
    → ((x : ℕ) → Has (drop k xs) x → R y x) → Ordered R (take k xs ++ y ∷ drop k xs)
ordered_between R xs zero y up before after = (all_from_members (R y) xs after, up)
ordered_between R [] (suc k) y up before after = (tt, tt)
ordered_between R (x ∷ xs) (suc k) y up before after = (
  all_from_members (R x) (take k xs ++ y ∷ drop k xs) later,
  ordered_between R xs k y up.1 (λ z h. before z (inr h)) after,
)
  where
    later : (z : ℕ) → Has (take k xs ++ y ∷ drop k xs) z → R x z
    later z h = elim (has_append_cases (take k xs) (y ∷ drop k xs) z h) [
      | inl front ↦ all_member (R x) xs z up.0 (has_from_take xs k z front)
      | inr (inl e) ↦ subst (R x) e (before x (inl refl))
      | inr (inr back) ↦ all_member (R x) xs z up.0 (has_from_drop xs k z back)
    ]

-- the place of one more report goes into its gap
pub one_more : (reports : List ReportState) (places : List ℕ) (r : ReportState) (at : ℕ) → AreInOrder reports places
    → IsGap reports places (key_of r) at → AreInOrder (reports ++ r ∷ []) (insert places at (length reports))
one_more reports places r at h gap = record { inside = inside; every = every; order = order }
  where
    longer : List ReportState
    longer = reports ++ r ∷ []

    count : length longer ≡ length reports + 1
    count = length-append reports (r ∷ [])

    old : (p : ℕ) → Has places p → key_at longer p ≡ key_at reports p
    old p k = key_before reports (r ∷ []) p (h.inside p k)

    inside : (p : ℕ) → Has (insert places at (length reports)) p → p < length longer
    inside p k = elim (has_append_cases (take at places) (length reports ∷ drop at places) p k) [
      | inl front ↦ let l = h.inside p (has_from_take places at p front) in omega (arith, l, count)
      | inr (inl e) ↦ omega (arith, e, count)
      | inr (inr back) ↦ let l = h.inside p (has_from_drop places at p back) in omega (arith, l, count)
    ]

    every : (p : ℕ) → p < length longer → Has (insert places at (length reports)) p
    every p l = elim (cases_eq p (length reports)) [
      | inl e ↦ has_append_right (take at places) (length reports ∷ drop at places) p (inl (sym e))
      | inr ne ↦ elim (parted places at p (h.every p (omega (arith, l, count)))) [
        | inl front ↦ has_append_left (take at places) (length reports ∷ drop at places) p front
        | inr back ↦ has_append_right (take at places) (length reports ∷ drop at places) p (inr back)
      ]
    ]

    before : (p : ℕ) → Has (take at places) p → ReportPrecedes longer p (length reports)
    before p k =
        let i = place_in_take places at p k in
        ap₂ key_cmp (old p (has_from_take places at p k) ∙ ap (key_at reports) (sym i.3)) (key_last reports r)
        ∙ gap.less i.0 i.1

    after : (p : ℕ) → Has (drop at places) p → ReportPrecedes longer (length reports) p
    after p k =
        let i = place_in_drop places at p k in
        ap₂ key_cmp (key_last reports r) (old p (has_from_drop places at p k) ∙ ap (key_at reports) (sym i.3))
        ∙ turned_back (key_at reports (slice_index places i.0)) (key_of r) (gap.greater i.0 i.1 i.2)

    order : Ordered (ReportPrecedes longer) (insert places at (length reports))
    order = ordered_between (ReportPrecedes longer) places at (length reports)
        (ordered_alike (ReportPrecedes reports) (ReportPrecedes longer) places
        (λ x y k l up. ap₂ key_cmp (old x k) (old y l) ∙ up) h.order) before after

-- the parts of the reports when one more is filed
pub pushed : (reports l filed : List ReportState) (places ps qs : List ℕ) (r : ReportState) (k : ReportKey)
    (at count : ℕ)
    → AreInOrder reports places → l ≡ reports → ps ≡ places → IsGap l ps k at → k ≡ key_of r
    → filed ≡ reports ++ r ∷ [] → count ≡ length reports → qs ≡ insert places at count → AreInOrder filed qs
pushed reports l filed places ps qs r k at count h e f gap own is counted put =
    subst (λ (x : List ReportState). AreInOrder x qs) (sym is) (subst (AreInOrder (reports ++ r ∷ []))
    (sym (put ∙ ap (insert places at) counted)) (one_more reports places r at h
    (subst (λ (x : ReportKey). IsGap reports places x at)
    own (subst (λ (x : List ReportState). IsGap x places k at) e (subst (λ (x : List ℕ). IsGap l x k at) f gap)))))
