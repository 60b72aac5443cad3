-- The items of blocks after one block has changed.
use Rattle.std.proofs.Common.{◌≡◌, ◌∙◌, ℕ, ◌+◌, ◌-◌, ◌*◌, ◌<◌, ◌≤◌, List, [], ◌∷◌, ◌++◌, length, take, set, get_or}
use Rattle.std.proofs.Common.{ap, sym, refl, arith, zero, suc, length-append}
use Rattle.std.specs.List.{remove, AllByRecursion}
use Rattle.std.proofs.lemmas.List.{append_assoc}
use Rattle.std.proofs.lemmas.List.Concat.{get_or-flat_map}
use Rattle.std.proofs.lemmas.List.Edits.{remove-append_left, remove-append_right}
use Rattle.ov_lists.specs.Code.Blocks.{Filled, block_size, joined, IsWhole, IsSpare}

module _ {T : Type 0} where
  -- an item that a block has at a place is taken out of the items of all blocks
  pub joined_without : (bs : List (Filled T)) (i w p : ℕ) (d c : Filled T) → i < length bs
      → w < length (get_or bs i d).items → c.items ≡ remove (get_or bs i d).items w
      → p ≡ length (joined (take i bs)) + w → joined (set bs i c) ≡ remove (joined bs) p
  joined_without [] i w p d c l m e at' = absurd (omega (arith, l))
  joined_without (b ∷ bs) zero w p d c l m e at' =
      let same : w ≡ p = omega (arith, at') in
      ap (λ (xs : List T). xs ++ joined bs) e ∙ sym (remove-append_left b.items (joined bs) w m)
      ∙ ap (λ (q : ℕ). remove (b.items ++ joined bs) q) same
  joined_without (b ∷ bs) (suc i) w p d c l m e at' =
      let n = length b.items in
      let k = length-append b.items (joined (take i bs)) in
      let behind = remove-append_right b.items (joined bs) n p refl (omega (arith, at', k)) in
      ap (λ (xs : List T). b.items ++ xs)
      (joined_without bs i w (p - n) d c (omega (arith, l)) m e (omega (arith, at', k)))
      ∙ sym behind

  -- an item that a block has at a place is one of the items of all blocks
  pub joined_at : (bs : List (Filled T)) (i w p : ℕ) (d : Filled T) (x : T) → i < length bs
      → w < length (get_or bs i d).items → x ≡ get_or (get_or bs i d).items w x
      → p ≡ length (joined (take i bs)) + w → x ≡ get_or (joined bs) p x
  joined_at bs i w p d x l m e at' =
      e ∙ sym (get_or-flat_map (λ (b : Filled T). b.items) bs i w d x l m)
      ∙ ap (λ (q : ℕ). get_or (joined bs) q x) (sym at')

  -- an empty block has no items
  pub joined_emptied : (bs : List (Filled T)) (i : ℕ) (d : Filled T) → i < length bs → (get_or bs i d).items ≡ []
      → joined (remove bs i) ≡ joined bs
  joined_emptied [] i d l e = absurd (omega (arith, l))
  joined_emptied (b ∷ bs) zero d l e = sym (ap (λ (xs : List T). xs ++ joined bs) e)
  joined_emptied (b ∷ bs) (suc i) d l e =
      ap (λ (xs : List T). b.items ++ xs) (joined_emptied bs i d (omega (arith, l)) e)

  -- a block takes in the items of the next one, which goes
  pub joined_next : (bs : List (Filled T)) (i j : ℕ) (d c : Filled T) → j ≡ i + 1 → j < length bs
      → c.items ≡ (get_or bs i d).items ++ (get_or bs j d).items → joined (set (remove bs j) i c) ≡ joined bs
  joined_next [] i j d c n l e = absurd (omega (arith, l))
  joined_next (b ∷ bs) i zero d c n l e = absurd (omega (arith, n))
  joined_next (b ∷ []) i (suc j) d c n l e = absurd (omega (arith, l))
  joined_next (b ∷ x ∷ bs) zero (suc (suc j)) d c n l e = absurd (omega (arith, n))
  joined_next (b ∷ x ∷ bs) zero (suc zero) d c n l e =
      ap (λ (xs : List T). xs ++ joined bs) e ∙ append_assoc b.items x.items (joined bs)
  joined_next (b ∷ x ∷ bs) (suc i) (suc j) d c n l e =
      ap (λ (xs : List T). b.items ++ xs) (joined_next (x ∷ bs) i j d c (omega (arith, n)) (omega (arith, l)) e)

  -- a whole block takes in the items of the next one, for which it has memory
  pub whole_next : (bs : List (Filled T)) (i j : ℕ) (d c : Filled T) → j ≡ i + 1 → j < length bs
      → c.items ≡ (get_or bs i d).items ++ (get_or bs j d).items
      → length (get_or bs i d).items + length (get_or bs j d).items ≤ block_size
      → c.capacity ≡ (get_or bs i d).capacity → AllByRecursion IsWhole bs
      → AllByRecursion IsWhole (set (remove bs j) i c)
  whole_next [] i j d c n l e f k all = absurd (omega (arith, l))
  whole_next (b ∷ bs) i zero d c n l e f k all = absurd (omega (arith, n))
  whole_next (b ∷ []) i (suc j) d c n l e f k all = absurd (omega (arith, l))
  whole_next (b ∷ x ∷ bs) zero (suc (suc j)) d c n l e f k all = absurd (omega (arith, n))
  whole_next (b ∷ x ∷ bs) zero (suc zero) d c n l e f k all =
      let count = ap length e ∙ length-append b.items x.items in
      ((k ∙ all.0.0, omega (arith, count, f)), all.1.1)
  whole_next (b ∷ x ∷ bs) (suc i) (suc j) d c n l e f k all =
      (all.0, whole_next (x ∷ bs) i j d c (omega (arith, n)) (omega (arith, l)) e f k all.1)

  -- the blocks have no more items than they have memory for
  pub few_items : (bs : List (Filled T)) → AllByRecursion IsWhole bs → length (joined bs) ≤ block_size * length bs
  few_items [] all = omega arith
  few_items (b ∷ bs) all =
      let rest = few_items bs all.1 in
      let this = all.0.1 in
      omega (arith, rest, this, length-append b.items (joined bs))

  -- the first ones of spare blocks are spare
  pub spare_front : (bs cs : List (Filled T)) → AllByRecursion IsSpare (bs ++ cs) → AllByRecursion IsSpare bs
  spare_front [] cs all = tt
  spare_front (b ∷ bs) cs all = (all.0, spare_front bs cs all.1)
