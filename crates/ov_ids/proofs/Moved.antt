-- An item comes between others when those behind its place are copied up by one place.
use Rattle.std.proofs.Common.{refl, subst, ◌≡◌, ◌+◌, ◌-◌, ◌≤◌, ℕ, suc, List, [], ◌∷◌, ◌++◌, length, take, drop, ap, ap₂}
use Rattle.std.proofs.Common.{◌∙◌, arith, length-append, length-take, length-drop, append-nil}
use Rattle.std.specs.Prelude.{◌<◌, zero, insert, remove, slice_set}
use Rattle.std.specs.List.{copy_within}
use Rattle.std.proofs.lemmas.List.{take-append-le, drop-append-le, take_at, drop_at, take-take, set_split, drop_all}

module _ {X : Type 0} (xs : List X) (x : X) (i n : ℕ) (long : n ≡ length xs) (le : i ≤ n) where
  abbrev more : List X
  more = xs ++ x ∷ []

  one_more : length more ≡ n + 1
  one_more = omega (arith, length-append xs (x ∷ []))

  first : length (take (i + 1) more) ≡ i + 1
  first = omega (arith, length-take (i + 1) more, one_more)

  behind : drop i more ≡ drop i xs ++ x ∷ []
  behind = drop-append-le i xs (x ∷ []) (omega arith)

  copied : take (n - i) (drop i more) ≡ drop i xs
  copied =
      ap (take (n - i)) behind ∙ take_at (drop i xs) (x ∷ []) (n - i) (omega (arith, length-drop i xs))

  parts : copy_within more i n (i + 1) ≡ take (i + 1) more ++ drop i xs
  parts =
      ap₂ (λ a b. (take (i + 1) more ++ a) ++ b) copied
      (drop_all (i + 1 + (n - i)) more (omega (arith, one_more)))
      ∙ append-nil (take (i + 1) more ++ drop i xs)

  pub moved_up : slice_set (copy_within more i n (i + 1)) i x ≡ insert xs i x
  moved_up =
      ap (λ l. slice_set l i x) parts
      ∙ set_split (take (i + 1) more ++ drop i xs) i x
      (omega (arith, length-append (take (i + 1) more) (drop i xs), first))
      ∙ ap₂ (λ a b. a ++ x ∷ b)
      (take-append-le i (take (i + 1) more) (drop i xs) (omega (arith, first))
      ∙ take-take i (i + 1) more (omega arith) ∙ take-append-le i xs (x ∷ []) (omega arith))
      (drop_at (take (i + 1) more) (drop i xs) (suc i) (omega (arith, first)))

-- the first goes out, those behind it move down, and x comes in behind k of them
down_first : {X : Type 0} (y : X) (t : List X) (k : ℕ) (x : X) → k ≤ length t →
    slice_set (take k t ++ drop k (y ∷ t)) k x ≡ take k t ++ x ∷ drop k t
down_first y t zero x l = refl
down_first y [] (suc k) x l = absurd (omega (arith, l))
down_first y (z ∷ t) (suc k) x l = ap (λ s. z ∷ s) (down_first z t k x (omega (arith, l)))

-- the item at f goes out, the next n move down, and x comes in behind them
moved_down_to : {X : Type 0} (xs : List X) (f n k : ℕ) (x : X) → n + f ≡ k → k < length xs →
    slice_set ((take f xs ++ take n (drop (suc f) xs)) ++ drop k xs) k x ≡ insert (remove xs f) k x
moved_down_to [] f n k x e l = absurd (omega (arith, l))
moved_down_to {X} (y ∷ t) zero n k x e l =
    let same : k ≡ n = omega (arith, e) in
    subst (λ (m : ℕ). slice_set (take m t ++ drop k (y ∷ t)) k x ≡ take k t ++ x ∷ drop k t) same
    (down_first y t k x (omega (arith, l)))
moved_down_to (y ∷ t) (suc f) n zero x e l = absurd (omega (arith, e))
moved_down_to (y ∷ t) (suc f) n (suc k) x e l =
    ap (λ s. y ∷ s) (moved_down_to t f n k x (omega (arith, e)) (omega (arith, l)))

pub copied_down : {X : Type 0} (xs : List X) (f k : ℕ) (x : X) → f ≤ k → k < length xs →
    slice_set (copy_within xs (f + 1) (k + 1) f) k x ≡ insert (remove xs f) k x
copied_down xs f k x le l =
    let count : (k + 1) - (f + 1) ≡ k - f = omega arith in
    let from : f + 1 ≡ suc f = omega arith in
    let end : f + ((k + 1) - (f + 1)) ≡ k = omega (arith, le) in
    (λ i. slice_set ((take f xs ++ take (count i) (drop (from i) xs)) ++ drop (end i) xs) k x)
    ∙ moved_down_to xs f (k - f) k x (omega (arith, le)) l

-- the item at f goes out, the n before it move up, and x comes in before them
moved_up_from : {X : Type 0} (xs : List X) (p n f : ℕ) (x : X) → n + p ≡ f → f < length xs →
    slice_set ((take (suc p) xs ++ take n (drop p xs)) ++ drop (suc f) xs) p x ≡ insert (remove xs f) p x
moved_up_from [] p n f x e l = absurd (omega (arith, l))
moved_up_from (y ∷ t) zero n f x e l =
    let same : n ≡ f = omega (arith, e) in ap (λ m. x ∷ (take m (y ∷ t) ++ drop f t)) same
moved_up_from (y ∷ t) (suc p) n zero x e l = absurd (omega (arith, e))
moved_up_from (y ∷ t) (suc p) n (suc f) x e l =
    ap (λ s. y ∷ s) (moved_up_from t p n f x (omega (arith, e)) (omega (arith, l)))

pub copied_up : {X : Type 0} (xs : List X) (p f : ℕ) (x : X) → p ≤ f → f < length xs →
    slice_set (copy_within xs p f (p + 1)) p x ≡ insert (remove xs f) p x
copied_up xs p f x le l =
    let to : p + 1 ≡ suc p = omega arith in
    let end : (p + 1) + (f - p) ≡ suc f = omega (arith, le) in
    (λ i. slice_set ((take (to i) xs ++ take (f - p) (drop p xs)) ++ drop (end i) xs) p x)
    ∙ moved_up_from xs p (f - p) f x (omega (arith, le)) l
