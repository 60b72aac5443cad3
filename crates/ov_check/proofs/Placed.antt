-- The expected entries by their places: the pairs first, and then the fans.
use Rattle.std.proofs.Common.{◌≡◌, ◌∙◌, ◌⊎◌, ℕ, zero, suc, ◌+◌, ◌-◌, ◌<◌, ◌≤◌, inl, inr, List, [], ◌∷◌, ◌++◌, length}
use Rattle.std.proofs.Common.{get_or, slice_get, Some, None, refl, sym, ap, subst, arith, length-append}
use Rattle.std.proofs.lemmas.Option.{slice_get-get_or}
use Rattle.ov_graph.specs.Links.{LinkGraph}
use Rattle.ov_graph.specs.Even.{later_members}
use Rattle.ov_cert.specs.declared.cert.Cert.TheVariants as cert
use Rattle.ov_cert.specs.declared.cert.Split.{Split}
use Rattle.ov_cert.specs.declared.fault.CheckFault.TheVariants.{Extra}
use Rattle.ov_cert.specs.declared.expected_entry_with_place_and_fault.Expected.{Expected}
use Rattle.ov_cert.specs.declared.expected_entry_with_place_and_fault.Expected.TheVariants.{Pair, Fan}
use Rattle.ov_cert.specs.Valid.{AreUnlinkedPairs}
use Rattle.ov_cert.specs.Verdict.{AllHold, IsFirstAtFault, PassesFrame, HoldsPair, HoldsFan, IsEntryFault}
use Rattle.ov_cert.specs.Verdict.{JudgedForGroup}
use Rattle.ov_cert.specs.Entries.{of_pairs, of_fans, AreExpected, IsExpected, HoldsEntry, entry_fault}
use Rattle.ov_cert.proofs.Validity.Exact.{valid_split}

-- the entry of a pair stands at the place of the pair
pair_there : (n : ℕ) (xs : List (ℕ × ℕ)) (rest : List Expected) (p : ℕ) (x : ℕ × ℕ)
    → slice_get xs p ≡ Some x → slice_get (of_pairs n xs ++ rest) p ≡ Some (Pair (n + p) x.0 x.1)
pair_there n [] rest p x e = absurd cc
pair_there n (y ∷ ys) rest zero x e =
    let s : Some y ≡ Some x = e in
    let w : y ≡ x = cc in
    let z : n ≡ n + 0 = omega arith in
    ap (λ (v : ℕ × ℕ). Some (Pair n v.0 v.1)) w ∙ ap (λ (m : ℕ). Some (Pair m x.0 x.1)) z
pair_there n (y ∷ ys) rest (suc p) x e =
    let z : suc n + p ≡ n + suc p = omega arith in
    pair_there (suc n) ys rest p x e ∙ ap (λ (m : ℕ). Some (Pair m x.0 x.1)) z

-- what stands behind the pairs
behind : (n : ℕ) (xs : List (ℕ × ℕ)) (rest : List Expected) (p : ℕ)
    → slice_get (of_pairs n xs ++ rest) (length xs + p) ≡ slice_get rest p
behind n [] rest p = let z : 0 + p ≡ p = omega arith in ap (slice_get rest) z
behind n (y ∷ ys) rest p =
    let z : suc (length ys) + p ≡ suc (length ys + p) = omega arith in
    ap (slice_get (of_pairs n (y ∷ ys) ++ rest)) z ∙ behind (suc n) ys rest p

-- the entry of a fan stands at the place of the fan
fan_there : (n : ℕ) (js : List ℕ) (p j : ℕ) → slice_get js p ≡ Some j
    → slice_get (of_fans n js) p ≡ Some (Fan (n + p) j)
fan_there n [] p j e = absurd cc
fan_there n (x ∷ js) zero j e =
    let s : Some x ≡ Some j = e in
    let w : x ≡ j = cc in
    let z : n ≡ n + 0 = omega arith in
    ap (λ (i : ℕ). Some (Fan n i)) w ∙ ap (λ (m : ℕ). Some (Fan m j)) z
fan_there n (x ∷ js) (suc p) j e =
    let z : suc n + p ≡ n + suc p = omega arith in
    fan_there (suc n) js p j e ∙ ap (λ (m : ℕ). Some (Fan m j)) z

-- an entry at a place is that of a pair, or stands behind the pairs
abbrev PairOrBehind : ℕ → List (ℕ × ℕ) → List Expected → ℕ → Expected → Type 0
PairOrBehind n xs rest p e =
    ((x : ℕ × ℕ) × (slice_get xs p ≡ Some x) × (e ≡ Pair (n + p) x.0 x.1))
    ⊎ ((r : ℕ) × (p ≡ length xs + r) × (slice_get rest r ≡ Some e))

pair_or_behind : (n : ℕ) (xs : List (ℕ × ℕ)) (rest : List Expected) (p : ℕ) (e : Expected)
    → slice_get (of_pairs n xs ++ rest) p ≡ Some e → PairOrBehind n xs rest p e
pair_or_behind n [] rest p e h = inr (p, omega arith, h)
pair_or_behind n (y ∷ ys) rest zero e h =
    let s : Some (Pair n y.0 y.1) ≡ Some e = h in
    let w : Pair n y.0 y.1 ≡ e = cc in
    let z : n ≡ n + 0 = omega arith in
    inl (y, refl, sym w ∙ ap (λ (m : ℕ). Pair m y.0 y.1) z)
pair_or_behind n (y ∷ ys) rest (suc p) e h =
    let z : suc n + p ≡ n + suc p = omega arith in
    elim (pair_or_behind (suc n) ys rest p e h) [
      | inl a ↦ inl (a.0, a.1, a.2 ∙ ap (λ (m : ℕ). Pair m a.0.0 a.0.1) z)
      | inr b ↦ let l = b.1 in inr (b.0, omega (arith, l), b.2)
    ]

fan_at : (n : ℕ) (js : List ℕ) (p : ℕ) (e : Expected) → slice_get (of_fans n js) p ≡ Some e
    → (j : ℕ) × (slice_get js p ≡ Some j) × (e ≡ Fan (n + p) j)
fan_at n [] p e h = absurd cc
fan_at n (x ∷ js) zero e h =
    let s : Some (Fan n x) ≡ Some e = h in
    let w : Fan n x ≡ e = cc in
    let z : n ≡ n + 0 = omega arith in
    (x, refl, sym w ∙ ap (λ (m : ℕ). Fan m x) z)
fan_at n (x ∷ js) (suc p) e h =
    let z : suc n + p ≡ n + suc p = omega arith in
    let r = fan_at (suc n) js p e h in
    (r.0, r.1, r.2 ∙ ap (λ (m : ℕ). Fan m r.0) z)

module _ (g : LinkGraph) (q : List ℕ) (c : Split) (pairs : List (ℕ × ℕ)) where
  abbrev the_fans : List ℕ
  the_fans = later_members q c.k

  abbrev the_entries : List Expected
  the_entries = of_pairs 0 pairs ++ of_fans 0 the_fans

  abbrev Holds : ℕ → Expected → Type 0
  Holds place e = HoldsEntry g q c e

  pair_placed : (p : ℕ) (x : ℕ × ℕ) → slice_get pairs p ≡ Some x → slice_get the_entries p ≡ Some (Pair p x.0 x.1)
  pair_placed p x e =
      let z : 0 + p ≡ p = omega arith in
      pair_there 0 pairs (of_fans 0 the_fans) p x e ∙ ap (λ (m : ℕ). Some (Pair m x.0 x.1)) z

  fan_placed : (p j : ℕ) → slice_get the_fans p ≡ Some j → slice_get the_entries (length pairs + p) ≡ Some (Fan p j)
  fan_placed p j e =
      let z : 0 + p ≡ p = omega arith in
      behind 0 pairs (of_fans 0 the_fans) p ∙ fan_there 0 the_fans p j e ∙ ap (λ (m : ℕ). Some (Fan m j)) z

  -- an entry at a place is that of a pair or of a fan
  abbrev IsPlaced : ℕ → Expected → Type 0
  IsPlaced p e =
      ((x : ℕ × ℕ) × (slice_get pairs p ≡ Some x) × (e ≡ Pair p x.0 x.1))
      ⊎ ((r : ℕ) × (j : ℕ) × (p ≡ length pairs + r) × (slice_get the_fans r ≡ Some j) × (e ≡ Fan r j))

  placed : (p : ℕ) (e : Expected) → slice_get the_entries p ≡ Some e → IsPlaced p e
  placed p e h =
      let z : 0 + p ≡ p = omega arith in
      elim (pair_or_behind 0 pairs (of_fans 0 the_fans) p e h) [
        | inl a ↦ inl (a.0, a.1, a.2 ∙ ap (λ (m : ℕ). Pair m a.0.0 a.0.1) z)
        | inr b ↦
            let f = fan_at 0 the_fans b.0 e b.2 in
            let y : 0 + b.0 ≡ b.0 = omega arith in
            inr (b.0, f.0, b.1, f.1, f.2 ∙ ap (λ (m : ℕ). Fan m f.0) y)
      ]

  -- each is expected
  pub each_expected : AreUnlinkedPairs g q c.k pairs → (p : ℕ) (e : Expected) → slice_get the_entries p ≡ Some e
      → IsExpected g q c.k e
  each_expected are p e h = elim (placed p e h) [
    | inl a ↦ subst (IsExpected g q c.k) (sym a.2) (pairs, are, a.1)
    | inr b ↦ subst (IsExpected g q c.k) (sym b.4) b.3
  ]

  -- where all hold, all pairs and all fans do
  pub all_hold : AllHold Holds the_entries → AllHold (HoldsPair g c) pairs × AllHold (HoldsFan g q c) the_fans
  all_hold all = (
    (λ p x h. all p (Pair p x.0 x.1) (pair_placed p x h)),
    (λ p j h. all (length pairs + p) (Fan p j) (fan_placed p j h)),
  )

  -- the first that does not hold is the first pair that does not, or where all pairs do the first fan
  pub first_fault : (e : Expected) → IsFirstAtFault Holds the_entries e → IsEntryFault g q c pairs (entry_fault e)
  first_fault e f = elim (placed f.place e f.there) [
    | inl a ↦ subst (λ (x : Expected). IsEntryFault g q c pairs (entry_fault x)) (sym a.2) (record {
      place = f.place;
      there = a.1;
      fails = λ held. f.fails (subst (HoldsEntry g q c) (sym a.2) held);
      before = λ p y l h. f.before p (Pair p y.0 y.1) l (pair_placed p y h);
    })
    | inr b ↦ subst (λ (x : Expected). IsEntryFault g q c pairs (entry_fault x)) (sym b.4) (
      (λ p x h.
          let l = pair_below p x h in
          let m = b.2 in
          f.before p (Pair p x.0 x.1) (omega (arith, l, m)) (pair_placed p x h)),
      record {
        place = b.0;
        there = b.3;
        fails = λ held. f.fails (subst (HoldsEntry g q c) (sym b.4) held);
        before = λ p j l h.
            f.before (length pairs + p) (Fan p j) (let m = b.2 in omega (arith, l, m)) (fan_placed p j h);
      },
    )
  ]
    where
      below : (xs : List (ℕ × ℕ)) (p : ℕ) (x : ℕ × ℕ) → slice_get xs p ≡ Some x → p < length xs
      below [] p x h = absurd cc
      below (y ∷ ys) zero x h = omega arith
      below (y ∷ ys) (suc p) x h = let l = below ys p x h in omega (arith, l)

      pair_below : (p : ℕ) (x : ℕ × ℕ) → slice_get pairs p ≡ Some x → p < length pairs
      pair_below = below pairs

-- where k is 0 none is expected
pub none_expected : (g : LinkGraph) (q : List ℕ) (k : ℕ) (entries : List Expected) → k ≡ 0 → entries ≡ []
    → AreExpected g q k entries
none_expected g q k entries k_zero none =
    let nothing : AreExpected g q 0 [] =
    ([], record { order = tt; each = λ p. ((λ h. absurd h), (λ pair. absurd pair.0)) }, refl) in
    subst (λ (n : ℕ). AreExpected g q n entries) (sym k_zero) (subst (AreExpected g q 0) (sym none) nothing)

length_of_pairs : (n : ℕ) (xs : List (ℕ × ℕ)) → length (of_pairs n xs) ≡ length xs
length_of_pairs n [] = refl
length_of_pairs n (x ∷ xs) = ap suc (length_of_pairs (suc n) xs)

length_of_fans : (n : ℕ) (js : List ℕ) → length (of_fans n js) ≡ length js
length_of_fans n [] = refl
length_of_fans n (j ∷ js) = ap suc (length_of_fans (suc n) js)

module _ (g : LinkGraph) (q : List ℕ) (c : Split) (frame : PassesFrame g q (cert.Split c)) (entries : List Expected)
    (are : AreExpected g q c.k entries) where
  abbrev OneHolds : ℕ → Expected → Type 0
  OneHolds place e = HoldsEntry g q c e

  -- each entry is expected
  pub expected_at : (p : ℕ) (e : Expected) → p < length entries → IsExpected g q c.k (get_or entries p e)
  expected_at p e l =
      let x = get_or entries p e in
      each_expected g q c are.0 are.1 p x
      (subst (λ (es : List Expected). slice_get es p ≡ Some x) are.2 (slice_get-get_or entries p e l))

  -- the first entry that is missing is the verdict
  pub judged_missing : (e : Expected) → IsFirstAtFault OneHolds entries e
      → JudgedForGroup g q (cert.Split c) (Some (entry_fault e))
  judged_missing e f =
      let first = subst (λ (es : List Expected). IsFirstAtFault OneHolds es e) are.2 f in
      inr (frame, (are.0, are.1, first_fault g q c are.0 e first))

  held : AllHold OneHolds entries → AllHold (HoldsPair g c) are.0 × AllHold (HoldsFan g q c) (later_members q c.k)
  held all = all_hold g q c are.0 (subst (AllHold OneHolds) are.2 all)

  -- how many pairs are expected
  module _ (count fans : ℕ) (all : count ≡ length entries) (some : fans ≡ length (later_members q c.k)) where
    pub pairs_left : (fans ≤ count) × (count - fans ≡ length are.0)
    pairs_left =
        let n = length_of_pairs 0 are.0 in
        let m = length_of_fans 0 (later_members q c.k) in
        let l = length-append (of_pairs 0 are.0) (of_fans 0 (later_members q c.k)) in
        let h = ap length are.2 in
        (omega (arith, n, m, l, h, all, some), omega (arith, n, m, l, h, all, some))

    -- no more than are expected
    abbrev HasNoMore : Type 0
    HasNoMore = (length c.pairs ≤ count - fans) × (length c.fans ≤ fans)

    -- all hold, and there are more
    pub judged_extra : AllHold OneHolds entries → ¬ HasNoMore → JudgedForGroup g q (cert.Split c) (Some Extra)
    judged_extra each more =
        let h = held each in
        let e = pairs_left.1 in
        let fans = length (later_members q c.k) in
        let none : ¬ ((length c.pairs ≤ length are.0) × (length c.fans ≤ fans)) = λ fits.
        more (let a = fits.0 in let b = fits.1 in (omega (arith, a, e), omega (arith, b, some))) in
        inr (frame, (are.0, are.1, (h.0, h.1, none)))

    -- all hold, and there are no more
    pub judged_valid : AllHold OneHolds entries → HasNoMore → JudgedForGroup g q (cert.Split c) None
    judged_valid each fits =
        let h = held each in
        let e = pairs_left.1 in
        let a = fits.0 in
        let b = fits.1 in
        valid_split g q c are.0 frame are.1 (h.0, h.1, (omega (arith, a, e), omega (arith, b, some)))
