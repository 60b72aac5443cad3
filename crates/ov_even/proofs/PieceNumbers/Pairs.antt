-- The number of pairs among this many members.
use Rattle.std.proofs.Common.{◌≡◌, ℕ, zero, suc, ◌+◌, ◌-◌, ◌*◌, ◌/◌, ◌<◌, ◌≤◌, inl, inr, refl, ap, arith}
use Rattle.std.proofs.lemmas.Bool.{cases_lt}
use Rattle.std.proofs.Math.Nat.{mul-suc, suc-mul, mul-le-mul_left}
use Rattle.ov_even.specs.Code.Levels.{pairs_among}

-- the number of pairs, as a formula
pub twice_pairs : (n : ℕ) → n * (n - 1) ≡ 2 * pairs_among n
unfolding pairs_among
twice_pairs zero = refl
twice_pairs (suc zero) = refl
twice_pairs (suc (suc k)) =
    let ih = twice_pairs (suc k) in
    let e : suc (suc k) - 1 ≡ suc k = omega arith in
    let f : suc k - 1 ≡ k = omega arith in
    let g = ap (λ (x : ℕ). suc (suc k) * x) e in
    let h = ap (λ (x : ℕ). suc k * x) f in
    let a = suc-mul (suc k) (suc k) in
    let b = mul-suc (suc k) k in
    omega (arith, ih, g, h, a, b)

pub pairs_halved : (n : ℕ) → n * (n - 1) / 2 ≡ pairs_among n
pairs_halved n = omega (arith, twice_pairs n)

-- more members have more pairs
pub pairs_rise : (a k : ℕ) → pairs_among a ≤ pairs_among (a + k)
unfolding pairs_among
pairs_rise a zero = let e = ap pairs_among (let s : a ≡ a + 0 = omega arith in s) in omega (arith, e)
pairs_rise a (suc k) =
    let e : a + suc k ≡ suc (a + k) = omega arith in
    let f = ap pairs_among e in
    omega (arith, pairs_rise a k, f)

pub pairs_within : (a b : ℕ) → pairs_among a < pairs_among b → a < b
pairs_within a b l = elim (cases_lt a b) [
  | inl m ↦ m
  | inr m ↦
      let e : a ≡ b + (a - b) = omega arith in
      let f = ap pairs_among e in
      absurd (omega (arith, pairs_rise b (a - b), f))
]

-- among 32,768 members there are 536,854,528 pairs
pub pairs_few : (n : ℕ) → n ≤ 32768 → pairs_among n ≤ 536854528
pairs_few n l =
    let a : n * (n - 1) ≤ n * 32767 = mul-le-mul_left n (omega arith) in
    omega (arith, twice_pairs n, a)

-- one more member is in one pair with each earlier member
pub pairs_more : (n : ℕ) → pairs_among (n + 1) ≡ n + pairs_among n
unfolding pairs_among
pairs_more n = let e : n + 1 ≡ suc n = omega arith in ap pairs_among e

-- if the pairs of `before` members come before a place among the pairs of a level, `before` is below the level
pub before_within : (level before left place : ℕ) → pairs_among before + left ≡ place → place < pairs_among level
    → before < level
before_within level before left place e l = pairs_within before level (omega arith)
