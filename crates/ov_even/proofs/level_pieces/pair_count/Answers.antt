use Rattle.std.proofs.Common.{◌≡◌, ◌∙◌, ◌*◌, ◌-◌, ◌/◌, ◌≤◌, ap, ℕ, arith}
use Rattle.std.proofs.lemmas.Nat.{mul-le}
use Rattle.ov_even.proofs.PieceNumbers.Pairs.{pairs_halved}
use Rattle.ov_even.proofs.level_pieces.pair_count.Goals as goal

pub returns-clause-count : goal.returns-clause-count
returns-clause-count c =
    let n = c.args.members in
    let e : c.saturating_sub.result ≡ n - 1 = omega (arith, c.saturating_sub.ensures) in
    ap (λ (x : ℕ). n * x / 2) e ∙ pairs_halved n

pub returns-clause-small : goal.returns-clause-small
returns-clause-small c =
    let n = c.args.members in
    let k = c.saturating_sub.result in
    let a : n * k ≤ 65535 * 65535 = mul-le n k 65535 65535 (omega arith) (omega (arith, c.saturating_sub.ensures)) in
    omega arith
