-- Sums over lists.
use Rattle.std.proofs.Common.{◌≡◌, ℕ, ◌+◌, List, [], ◌∷◌, refl, sym, subst, arith}
use Rattle.ov_shape.specs.Sums.{IsSum}

-- the same sum of the same list
pub sum_at : (R : ℕ → ℕ → Type 0) (xs ys : List ℕ) (m n : ℕ) → xs ≡ ys → m ≡ n → IsSum R xs m → IsSum R ys n
sum_at R xs ys m n e f s = subst (λ (k : ℕ). IsSum R ys k) f (subst (λ (zs : List ℕ). IsSum R zs m) e s)

-- a sum over what is left, added to `total`, is a sum over all
abbrev pub GoesOn : (ℕ → ℕ → Type 0) → List ℕ → List ℕ → ℕ → Type 0
GoesOn R whole left total = (n : ℕ) → IsSum R left n → IsSum R whole (total + n)

pub goes_begun : (R : ℕ → ℕ → Type 0) (xs : List ℕ) → GoesOn R xs xs 0
goes_begun R xs n s = let e : n ≡ 0 + n = omega arith in sum_at R xs xs n (0 + n) refl e s

pub goes_more : (R : ℕ → ℕ → Type 0) (whole left after : List ℕ) (x v total : ℕ) → left ≡ x ∷ after → R x v
    → GoesOn R whole left total → GoesOn R whole after (total + v)
goes_more R whole left after x v total e r goes n s =
    let t : IsSum R (x ∷ after) (v + n) = (v, n, r, s, refl) in
    let f : total + (v + n) ≡ total + v + n = omega arith in
    sum_at R whole whole (total + (v + n)) (total + v + n) refl f
    (goes (v + n) (sum_at R (x ∷ after) left (v + n) (v + n) (sym e) refl t))

pub goes_done : (R : ℕ → ℕ → Type 0) (whole left : List ℕ) (total : ℕ) → left ≡ [] → GoesOn R whole left total
    → IsSum R whole total
goes_done R whole left total e goes =
    let z : IsSum R [] 0 = refl in
    let f : total + 0 ≡ total = omega arith in
    sum_at R whole whole (total + 0) total refl f (goes 0 (sum_at R [] left 0 0 (sym e) refl z))
