-- What changes of blocks leave of their density.
use Rattle.std.proofs.Common.{◌≡◌, ℕ, ◌+◌, ◌*◌, ◌<◌, ◌≤◌, ◌⊎◌, inl, inr, List, [], ◌∷◌, ◌++◌, length, set, get_or}
use Rattle.std.proofs.Common.{ap, refl, subst, arith, zero, suc, length-append}
use Rattle.std.specs.List.{remove}
use Rattle.std.proofs.lemmas.List.{get_or-set_other, get_or-set_same, length-set}
use Rattle.ov_lists.specs.Code.Blocks.{Filled, joined}
use Rattle.ov_lists.specs.Code.Dense.{AreDense, Exceeds, most_joined, sizes, with_more}

-- a neighbour of a block that had one item has many
exceeds_next : (n m : ℕ) (ns : List ℕ) → most_joined < n + m → m ≤ 1 → Exceeds m ns → Exceeds n ns
exceeds_next n m [] a b e = tt
exceeds_next n m (x ∷ ns) a b e = omega (arith, a, b, e)

-- a block without items goes
pub dense_without : (ns : List ℕ) (i : ℕ) → i < length ns → get_or ns i 0 ≡ 0 → AreDense (with_more ns i)
    → AreDense (remove ns i)
dense_without [] i l z d = absurd (omega (arith, l))
dense_without (n ∷ ns) zero l z d = d.2
dense_without (n ∷ []) (suc i) l z d = absurd (omega (arith, l))
dense_without (n ∷ m ∷ ns) (suc zero) l z d =
    (d.0, exceeds_next n (m + 1) ns d.1 (omega (arith, z)) d.2.1, d.2.2)
dense_without (n ∷ m ∷ ns) (suc (suc i)) l z d = (d.0, d.1, dense_without (m ∷ ns) (suc i) (omega (arith, l)) z d.2)

-- a larger block exceeds as well
exceeds_grown : (m n : ℕ) (ns : List ℕ) → m ≤ n → Exceeds m ns → Exceeds n ns
exceeds_grown m n [] l e = tt
exceeds_grown m n (x ∷ ns) l e = omega (arith, l, e)

-- before two blocks that are joined nothing changes
exceeds_joined : (a : ℕ) (ns : List ℕ) (i j n : ℕ) → j ≡ i + 1 → get_or ns i 0 ≤ n → Exceeds a ns
    → Exceeds a (set (remove ns j) i n)
exceeds_joined a ns i zero n s l e = absurd (omega (arith, s))
exceeds_joined a [] zero (suc j) n s l e = e
exceeds_joined a [] (suc i) (suc j) n s l e = e
exceeds_joined a (b ∷ ns) zero (suc j) n s l e = omega (arith, l, e)
exceeds_joined a (b ∷ ns) (suc i) (suc j) n s l e = e

-- two neighbours become one that is not smaller than either
dense_joined : (ns : List ℕ) (i j n : ℕ) → j ≡ i + 1 → j < length ns → get_or ns i 0 ≤ n → get_or ns j 0 ≤ n
    → AreDense ns → AreDense (set (remove ns j) i n)
dense_joined [] i j n s l this next d = absurd (omega (arith, l))
dense_joined (a ∷ ns) i zero n s l this next d = absurd (omega (arith, s))
dense_joined (a ∷ []) i (suc j) n s l this next d = absurd (omega (arith, l))
dense_joined (a ∷ b ∷ ns) zero (suc (suc j)) n s l this next d = absurd (omega (arith, s))
dense_joined (a ∷ b ∷ ns) zero (suc zero) n s l this next d =
    (omega (arith, this, d.0), exceeds_grown b n ns next d.2.1, d.2.2)
dense_joined (a ∷ b ∷ ns) (suc i) (suc j) n s l this next d =
    let same : j ≡ i + 1 = omega (arith, s) in (
      d.0,
      exceeds_joined a (b ∷ ns) i j n same this d.1,
      dense_joined (b ∷ ns) i j n same (omega (arith, l)) this next d.2,
    )

-- it makes no difference what one of the two was
same_joined : (ns : List ℕ) (i j k x n : ℕ) → j ≡ i + 1 → (k ≡ i) ⊎ (k ≡ j)
    → set (remove (set ns k x) j) i n ≡ set (remove ns j) i n
same_joined [] i j k x n s o = refl
same_joined (a ∷ ns) i zero k x n s o = absurd (omega (arith, s))
same_joined (a ∷ ns) zero (suc (suc j)) k x n s o = absurd (omega (arith, s))
same_joined (a ∷ ns) zero (suc zero) zero x n s o = refl
same_joined (a ∷ ns) zero (suc zero) (suc (suc k)) x n s o =
    absurd (elim o [ inl e ↦ omega (arith, e) | inr e ↦ omega (arith, e) ])
same_joined (a ∷ []) zero (suc zero) (suc zero) x n s o = refl
same_joined (a ∷ b ∷ ns) zero (suc zero) (suc zero) x n s o = refl
same_joined (a ∷ ns) (suc i) (suc j) zero x n s o =
    absurd (elim o [ inl e ↦ omega (arith, e) | inr e ↦ omega (arith, e) ])
same_joined (a ∷ ns) (suc i) (suc j) (suc k) x n s o =
    ap (λ (ms : List ℕ). a ∷ ms)
    (same_joined ns i j k x n (omega (arith, s))
    (elim o [ inl e ↦ inl (omega (arith, e)) | inr e ↦ inr (omega (arith, e)) ]))

-- each size is above 0
dense_some : (ns : List ℕ) (i : ℕ) → i < length ns → AreDense ns → 0 < get_or ns i 0
dense_some [] i l d = absurd (omega (arith, l))
dense_some (n ∷ ns) zero l d = d.0
dense_some (n ∷ ns) (suc i) l d = dense_some ns i (omega (arith, l)) d.2

-- what one of the two had once more is less than what both have
at_one : (ns : List ℕ) (i j : ℕ) → j ≡ i + 1 → j < length ns → AreDense (with_more ns i)
    → (get_or (with_more ns i) i 0 ≤ get_or ns i 0 + get_or ns j 0)
    × (get_or (with_more ns i) j 0 ≤ get_or ns i 0 + get_or ns j 0)
at_one ns i j s l d =
    let x = get_or ns i 0 + 1 in
    let same = get_or-set_same ns i x 0 (omega (arith, s, l)) in
    let other = get_or-set_other ns i j x 0 (λ e. absurd (omega (arith, e, s))) in
    let some = dense_some (with_more ns i) j (omega (arith, l, length-set ns i x)) d in
    (omega (arith, same, other, some), omega (arith, other))

at_next : (ns : List ℕ) (i j : ℕ) → j ≡ i + 1 → j < length ns → AreDense (with_more ns j)
    → (get_or (with_more ns j) i 0 ≤ get_or ns i 0 + get_or ns j 0)
    × (get_or (with_more ns j) j 0 ≤ get_or ns i 0 + get_or ns j 0)
at_next ns i j s l d =
    let x = get_or ns j 0 + 1 in
    let same = get_or-set_same ns j x 0 l in
    let other = get_or-set_other ns j i x 0 (λ e. absurd (omega (arith, e, s))) in
    let some = dense_some (with_more ns j) i (omega (arith, s, l, length-set ns j x)) d in
    (omega (arith, other), omega (arith, same, other, some))

-- a block and the next one are joined, after this one had one item more
pub dense_this : (ns : List ℕ) (i j : ℕ) → j ≡ i + 1 → j < length ns → AreDense (with_more ns i)
    → AreDense (set (remove ns j) i (get_or ns i 0 + get_or ns j 0))
dense_this ns i j s l d =
    let x = get_or ns i 0 + 1 in
    let n = get_or ns i 0 + get_or ns j 0 in
    let fits = at_one ns i j s l d in
    subst AreDense (same_joined ns i j i x n s (inl refl))
    (dense_joined (with_more ns i) i j n s (omega (arith, l, length-set ns i x)) fits.0 fits.1 d)

-- the same after the next one had one item more
pub dense_next : (ns : List ℕ) (i j : ℕ) → j ≡ i + 1 → j < length ns → AreDense (with_more ns j)
    → AreDense (set (remove ns j) i (get_or ns i 0 + get_or ns j 0))
dense_next ns i j s l d =
    let x = get_or ns j 0 + 1 in
    let n = get_or ns i 0 + get_or ns j 0 in
    let fits = at_next ns i j s l d in
    subst AreDense (same_joined ns i j j x n s (inr refl))
    (dense_joined (with_more ns j) i j n s (omega (arith, l, length-set ns j x)) fits.0 fits.1 d)

-- a block that has items, and exceeds with each neighbour, stays as it is
pub dense_kept : (ns : List ℕ) (i : ℕ) → i < length ns → 0 < get_or ns i 0
    → (suc i < length ns → most_joined < get_or ns i 0 + get_or ns (suc i) 0)
    → ((h : ℕ) → suc h ≡ i → most_joined < get_or ns h 0 + get_or ns i 0) → AreDense (with_more ns i) → AreDense ns
dense_kept [] i l p after before d = absurd (omega (arith, l))
dense_kept (n ∷ []) zero l p after before d = (p, tt, tt)
dense_kept (n ∷ x ∷ ns) zero l p after before d = (p, after (omega arith), d.2)
dense_kept (n ∷ []) (suc i) l p after before d = absurd (omega (arith, l))
dense_kept (n ∷ x ∷ ns) (suc zero) l p after before d = (
  d.0,
  before 0 refl,
  dense_kept (x ∷ ns) zero (omega arith) p (λ m. after (omega (arith, m)))
      (λ h e. absurd (omega (arith, e))) d.2,
)
dense_kept (n ∷ x ∷ ns) (suc (suc i)) l p after before d = (
  d.0,
  d.1,
  dense_kept (x ∷ ns) (suc i) (omega (arith, l)) p (λ m. after (omega (arith, m)))
      (λ h e. before (suc h) (omega (arith, e))) d.2,
)

-- one item less, and one more again
pub more_back : (ns : List ℕ) (i m : ℕ) → i < length ns → m + 1 ≡ get_or ns i 0 → with_more (set ns i m) i ≡ ns
more_back [] i m l e = absurd (omega (arith, l))
more_back (n ∷ ns) zero m l e = ap (λ (k : ℕ). k ∷ ns) e
more_back (n ∷ ns) (suc i) m l e = ap (λ (ms : List ℕ). n ∷ ms) (more_back ns i m (omega (arith, l)) e)

-- a block with many items comes last
pub dense_pushed : (ns : List ℕ) (n : ℕ) → AreDense ns → most_joined < n → AreDense (ns ++ n ∷ [])
dense_pushed [] n d l = (omega (arith, l), tt, tt)
dense_pushed (m ∷ []) n d l = (d.0, omega (arith, l), (omega (arith, l), tt, tt))
dense_pushed (m ∷ x ∷ ns) n d l = (d.0, d.1, dense_pushed (x ∷ ns) n d.2 l)

module _ {T : Type 0} where
  -- the sizes of the other blocks
  pub sizes_without : (bs : List (Filled T)) (i : ℕ) → sizes (remove bs i) ≡ remove (sizes bs) i
  sizes_without [] zero = refl
  sizes_without [] (suc i) = refl
  sizes_without (b ∷ bs) zero = refl
  sizes_without (b ∷ bs) (suc i) = ap (λ (ns : List ℕ). length b.items ∷ ns) (sizes_without bs i)

  -- dense blocks have 64 items each, but for one
  pub few_blocks : (bs : List (Filled T)) → AreDense (sizes bs) → 64 * length bs ≤ length (joined bs) + 64
  few_blocks [] d = omega arith
  few_blocks (b ∷ []) d = omega arith
  few_blocks (b ∷ c ∷ bs) d =
      let rest = few_blocks bs d.2.2 in
      let both : most_joined < length b.items + length c.items = d.1 in
      omega (arith, rest, both, length-append b.items (joined (c ∷ bs)), length-append c.items (joined bs))
