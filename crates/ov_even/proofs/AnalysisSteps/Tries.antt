-- Each try of a level lowers the bound on how many levels are still tried.
use Rattle.std.proofs.Common.{◌≡◌, inl, inr, ℕ, zero, suc, ◌+◌, ◌-◌, ◌*◌, ◌^◌, ◌<◌, ◌≤◌, Bool, true, false}
use Rattle.std.proofs.Common.{◌&&◌, nat_lt, ltb, refl, sym, subst, arith}
use Rattle.std.proofs.Math.Nat.{pow-suc, mul_assoc}
use Rattle.std.proofs.lemmas.Bool.{both_ways, cond-true, cond-false, cases_lt, lt-ltb, le-ltb}
use Rattle.ov_even.specs.Searching.{AreFewTries}
use Rattle.ov_even.specs.Code.Narrowing.{IsNext, doublings_within, doublings, tries_left}

no_doubling : (most from to : ℕ) → to < from → doublings_within (suc most) from to ≡ 0
unfolding doublings_within
no_doubling most from to l = cond-true (ltb to from) 0 (suc (doublings_within most (2 * from) to)) (lt-ltb to from l)

one_doubling : (most from to : ℕ) → from ≤ to
    → doublings_within (suc most) from to ≡ suc (doublings_within most (2 * from) to)
unfolding doublings_within
one_doubling most from to l = cond-false (ltb to from) 0 (suc (doublings_within most (2 * from) to)) (le-ltb to from l)

twice : (k from : ℕ) → 2 ^ suc k * from ≡ 2 ^ k * (2 * from)
twice k from = rw (pow-suc 2 k) (mul_assoc (2 ^ k) 2 from)

-- if k doublings lead above `to`, at most k are counted
counted : (most from to k : ℕ) → to < 2 ^ k * from → doublings_within most from to ≤ k
unfolding doublings_within
counted zero from to k above = omega arith
counted (suc most) from to zero above = rw (no_doubling most from to (omega (arith, above))) (omega arith)
counted (suc most) from to (suc k) above = elim (cases_lt to from) [
  | inl l ↦ rw (no_doubling most from to l) (omega arith)
  | inr l ↦
      let e = twice k from in
      let less = counted most (2 * from) to k (omega (arith, above, e)) in
      rw (one_doubling most from to l) (omega (arith, less))
]

-- the doublings that are counted lead above `to`, if enough of them may be counted
reached : (most from to : ℕ) → 1 ≤ from → to < most + from → to < 2 ^ doublings_within most from to * from
unfolding doublings_within
reached zero from to low near = omega (arith, near)
reached (suc most) from to low near = elim (cases_lt to from) [
  | inl l ↦ rw (no_doubling most from to l) (omega (arith, l))
  | inr l ↦
      let e = twice (doublings_within most (2 * from) to) from in
      let above = reached most (2 * from) to (omega (arith, low)) (omega (arith, low, near)) in
      rw (one_doubling most from to l) (omega (arith, above, e))
]

at_most : (from to k : ℕ) → to < 2 ^ k * from → doublings from to ≤ k
at_most from to k above = counted to from to k above

above : (from to : ℕ) → 1 ≤ from → to < 2 ^ doublings from to * from
above from to low = reached to from to low (omega (arith, low))

-- fewer levels between take no more halvings, and half of them one less
no_more : (x y : ℕ) → y ≤ x → doublings 1 y ≤ doublings 1 x
no_more x y l = let a = above 1 x (omega arith) in at_most 1 y (doublings 1 x) (omega (arith, l, a))

one_less : (x y k : ℕ) → 2 * y ≤ x → 1 ≤ x → x < 2 ^ k * 1 → doublings 1 y < k
one_less x y zero half some a = absurd (omega (arith, some, a))
one_less x y (suc k) half some a =
    let e = twice k 1 in
    let l = at_most 1 y k (omega (arith, half, a, e)) in
    omega (arith, l)

halved : (x y : ℕ) → 2 * y ≤ x → 1 ≤ x → doublings 1 y < doublings 1 x
halved x y half some = one_less x y (doublings 1 x) half some (above 1 x (omega arith))

-- a number that was doubled takes one doubling less
doubled_by : (from to k : ℕ) → to < 2 ^ k * from → 2 * from ≤ to → doublings (2 * from) to < k
doubled_by from to zero a l = absurd (omega (arith, a, l))
doubled_by from to (suc k) a l =
    let e = twice k from in
    let m = at_most (2 * from) to k (omega (arith, a, e)) in
    omega (arith, m)

doubled : (from to : ℕ) → 1 ≤ from → 2 * from ≤ to → doublings (2 * from) to < doublings from to
doubled from to low l = doubled_by from to (doublings from to) (above from to low) l

-- a number that is not above takes one doubling at least, and two if once is not enough
one_at_least : (from to k : ℕ) → to < 2 ^ k * from → from ≤ to → 1 ≤ k
one_at_least from to zero a l = absurd (omega (arith, a, l))
one_at_least from to (suc k) a l = omega arith

two_at_least : (from to k : ℕ) → to < 2 ^ k * from → 2 * from ≤ to → 2 ≤ k
two_at_least from to zero a l = absurd (omega (arith, a, l))
two_at_least from to (suc zero) a l = absurd (omega (arith, a, l))
two_at_least from to (suc (suc k)) a l = omega arith

-- one level is still tried at least
pub some_left : (low high : ℕ) (guesses : Bool) → 1 ≤ tries_left low high guesses
some_left low high true = omega arith
some_left low high false = omega arith

-- the bound falls if the level is cleared
pub cleared_fewer : (low high level : ℕ) (guesses : Bool) → IsNext low high guesses level → level < high
    → tries_left level high guesses < tries_left low high guesses
cleared_fewer low high level true next below =
    let up = next.above in
    let between : low + 1 < high = omega (arith, up, below) in
    let first = no_more (high - (low + 1)) (high - (level + 1)) (omega (arith, up)) in
    elim (next.guessed between refl) [
      | inl e ↦
          let d : level + 1 ≡ 2 * (low + 1) = omega (arith, e) in
          let second = subst (λ (x : ℕ). doublings x high < doublings (low + 1) high) (sym d)
          (doubled (low + 1) high (omega arith) (omega (arith, d, below))) in
          omega (arith, first, second)
      | inr e ↦
          let none = at_most 1 (high - (level + 1)) 0 (omega (arith, e)) in
          let last = at_most (level + 1) high 1 (omega (arith, e)) in
          let one = halved (high - (low + 1)) 0 (omega arith) (omega (arith, between)) in
          let two = one_at_least (low + 1) high (doublings (low + 1) high) (above (low + 1) high (omega arith))
          (omega (arith, between)) in
          omega (arith, none, last, one, two)
    ]
cleared_fewer low high level false next below =
    let up = next.above in
    let between : low + 1 < high = omega (arith, up, below) in
    let mid = next.middle between (λ e. both_ways false refl e) in
    let less = halved (high - (low + 1)) (high - (level + 1)) (omega (arith, mid, between)) (omega (arith, between)) in
    omega (arith, less)

-- the bound falls if the level has a cut, which shows that the lower level `top` is not good. Levels are guessed no
-- more after a guess just below `high`
pub stopped_fewer : (low high level top : ℕ) (guesses : Bool) → IsNext low high guesses level → low + 1 < high
    → low < top → top ≤ level
    → tries_left low top (guesses && nat_lt (level + 1) high) < tries_left low high guesses
stopped_fewer low high level top true next between rises within =
    let less = next.less between in
    let first = no_more (high - (low + 1)) (top - (low + 1)) (omega (arith, within, less)) in
    let reach = above (low + 1) high (omega arith) in
    elim (cases_lt (level + 1) high) [
      | inl l ↦ elim (next.guessed between refl) [
        | inl e ↦
            let one = at_most (low + 1) top 1 (omega (arith, within, e)) in
            let two = two_at_least (low + 1) high (doublings (low + 1) high) reach (omega (arith, e, l)) in
            rw (lt-ltb (level + 1) high l) (omega (arith, first, one, two))
        | inr e ↦ absurd (omega (arith, e, l))
      ]
      | inr l ↦
          let one = one_at_least (low + 1) high (doublings (low + 1) high) reach (omega (arith, between)) in
          rw (le-ltb (level + 1) high l) (omega (arith, first, one))
    ]
stopped_fewer low high level top false next between rises within =
    let mid = next.middle between (λ e. both_ways false refl e) in
    let less = halved (high - (low + 1)) (top - (low + 1)) (omega (arith, mid, within, between))
    (omega (arith, between)) in
    omega (arith, less)

-- a search begins with few tries
pub begun_few : (n high : ℕ) → high < n → AreFewTries n (tries_left 0 high true)
begun_few n high less k below =
    let first = at_most 1 (high - 1) k (omega (arith, less, below)) in
    let second = at_most 1 high k (omega (arith, less, below)) in
    omega (arith, first, second)

-- where the number is known to be k, one level is tried: the one above k
pub one_left : (k : ℕ) → tries_left k (k + 1) false ≡ 1
one_left k =
    let none = at_most 1 ((k + 1) - (k + 1)) 0 (omega arith) in
    omega (arith, none)
