-- The number of pieces of all levels, as a formula.
use Rattle.std.proofs.Common.{◌≡◌, ℕ, zero, suc, ◌+◌, ◌-◌, ◌*◌, ◌/◌, ◌<◌, ◌≤◌, [], length, ap, arith}
use Rattle.std.proofs.lemmas.List.{length-append}
use Rattle.std.proofs.lemmas.Nat.{mul-le}
use Rattle.std.proofs.Math.Nat.{mul-add, mul-suc, mul_left_comm, suc-mul}
use Rattle.ov_graph.specs.Links.{most_of_any_graph}
use Rattle.ov_board.specs.Limits.{piece_limit}
use Rattle.ov_even.specs.Code.Levels.{pieces_of_level, levels_behind, all_pieces, pairs_among}
use Rattle.ov_even.proofs.PieceNumbers.Pairs.{twice_pairs, pairs_few}
use Rattle.ov_even.proofs.PieceNumbers.LevelPlaces.{length_level_low, length_level_high}

-- one more level
length_next : (m level left : ℕ) → length (levels_behind m level (suc left))
    ≡ length (levels_behind m level left) + length (pieces_of_level m (level + suc left))
unfolding levels_behind
length_next m level zero =
    let a = length-append (pieces_of_level m (suc level)) [] in
    let e : suc level ≡ level + 1 = omega arith in
    let f = ap (λ (x : ℕ). length (pieces_of_level m x)) e in
    omega (arith, a, f)
length_next m level (suc left) =
    let a = length-append (pieces_of_level m (suc level)) (levels_behind m (suc level) (suc left)) in
    let b = length-append (pieces_of_level m (suc level)) (levels_behind m (suc level) left) in
    let e : suc level + suc left ≡ level + suc (suc left) = omega arith in
    let f = ap (λ (x : ℕ). length (pieces_of_level m x)) e in
    omega (arith, a, b, f, length_next m (suc level) left)

-- the levels below the number of members
length_low_levels : (m k : ℕ) → k < m → 3 * length (levels_behind m 0 k) + 5 * pairs_among (suc k)
    ≡ 3 * (k * m) + suc k * pairs_among (suc k)
unfolding levels_behind pairs_among
length_low_levels m zero l = omega arith
length_low_levels m (suc k) l =
    let e : 0 + suc k ≡ suc k = omega arith in
    let f = ap (λ (x : ℕ). length (pieces_of_level m x)) e in
    let size = length_level_high m (suc k) (omega arith) in
    let ih = length_low_levels m k (omega arith) in
    let next = length_next m 0 k in
    let pairs = pairs_among (suc k) in
    let a = suc-mul k m in
    let b = suc-mul (suc k) (suc k + pairs) in
    let d = mul-add (suc k) (suc k) pairs in
    let g = mul-suc (suc k) k in
    let h : suc k - 1 ≡ k = omega arith in
    let i = ap (λ (x : ℕ). suc k * x) h in
    let twice = twice_pairs (suc k) in
    omega (arith, f, size, ih, next, a, b, d, g, i, twice)

-- each level from the number of members on has one piece for each pair
length_high_levels : (m low k : ℕ) → m ≤ suc low → length (levels_behind m 0 (low + k))
    ≡ length (levels_behind m 0 low) + k * pairs_among m
length_high_levels m low zero l =
    let e : low + 0 ≡ low = omega arith in
    let f = ap (λ (x : ℕ). length (levels_behind m 0 x)) e in
    omega (arith, f)
length_high_levels m low (suc k) l =
    let e : low + suc k ≡ suc (low + k) = omega arith in
    let f = ap (λ (x : ℕ). length (levels_behind m 0 x)) e in
    let next = length_next m 0 (low + k) in
    let size = length_level_low m (0 + suc (low + k)) (omega arith) in
    let a = suc-mul k (pairs_among m) in
    omega (arith, f, next, size, a, length_high_levels m low k l)

-- three times the number of all pieces, as a formula in the number of pairs
pub length_all : (n m : ℕ) → m ≤ n → 3 * length (all_pieces n m)
    ≡ (m + 1) * pairs_among m + 3 * ((n - m) * pairs_among m)
unfolding levels_behind pairs_among
length_all n zero l =
    let high = length_high_levels 0 0 (n - 1) (omega arith) in
    let e : 0 + (n - 1) ≡ n - 1 = omega arith in
    let f = ap (λ (x : ℕ). length (levels_behind 0 0 x)) e in
    omega (arith, high, f)
length_all n (suc k) l =
    let e : k + (n - suc k) ≡ n - 1 = omega arith in
    let f = ap (λ (x : ℕ). length (levels_behind (suc k) 0 x)) e in
    let high = length_high_levels (suc k) k (n - suc k) (omega arith) in
    let low = length_low_levels (suc k) k (omega arith) in
    let pairs = pairs_among (suc k) in
    let a = suc-mul (suc k) pairs in
    let g : suc k + 1 ≡ suc (suc k) = omega arith in
    let h = ap (λ (x : ℕ). x * pairs) g in
    let i = mul-suc k k in
    let j : suc k - 1 ≡ k = omega arith in
    let o = ap (λ (x : ℕ). suc k * x) j in
    let q = suc-mul k k in
    let twice = twice_pairs (suc k) in
    omega (arith, f, high, low, a, h, i, o, q, twice)

-- the formula as the code computes it
pub reckoned : (n m pairs : ℕ) → m ≤ n → pairs ≡ pairs_among m
    → length (all_pieces n m) ≡ (m + 1) * pairs / 3 + (n - m) * pairs
reckoned n m pairs l e =
    let all = rw (← e) at (length_all n m l) in
    omega (arith, all)

-- the formula without the number of pairs
pub in_figures : (n m : ℕ) → m ≤ n → 6 * length (all_pieces n m)
    ≡ (m + 1) * (m * (m - 1)) + 3 * ((n - m) * (m * (m - 1)))
in_figures n m l =
    let pairs = pairs_among m in
    let twice = twice_pairs m in
    let a = ap (λ (x : ℕ). (m + 1) * x) twice in
    let b = ap (λ (x : ℕ). (n - m) * x) twice in
    let c : (m + 1) * (2 * pairs) ≡ 2 * ((m + 1) * pairs) = mul_left_comm (m + 1) 2 pairs in
    let d : (n - m) * (2 * pairs) ≡ 2 * ((n - m) * pairs) = mul_left_comm (n - m) 2 pairs in
    omega (arith, length_all n m l, a, b, c, d)

-- a graph within the limit has fewer than `piece_limit` pieces
pub total_small : (n m : ℕ) → n ≤ most_of_any_graph → m ≤ n → length (all_pieces n m) < piece_limit
total_small n m few l =
    let pairs = pairs_among m in
    let a : pairs ≤ 536854528 = pairs_few m (omega arith) in
    let b : (m + 1) * pairs ≤ 32769 * 536854528 = mul-le (m + 1) pairs 32769 536854528 (omega arith) a in
    let c : (n - m) * pairs ≤ 32768 * 536854528 = mul-le (n - m) pairs 32768 536854528 (omega arith) a in
    omega (arith, length_all n m l)
