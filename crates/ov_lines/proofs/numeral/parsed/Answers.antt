-- The number with the next digit does not fit, and so the whole does not.
use Rattle.std.proofs.Common.{arith}
use Rattle.ov_lines.proofs.Lines.Numerals.{next_value}
use Rattle.ov_lines.proofs.numeral.parsed.Goals as goal

pub returns-in_err-checked_mul-clause-none : goal.returns-in_err-checked_mul-clause-none
returns-in_err-checked_mul-clause-none c =
    let l = c.loop-byte in
    let least = next_value l.number l.byte-index c.args.word.now (omega arith) l.invariant.value in
    rw c.from_residual-in_err-checked_mul.ensures
    (λ numeral fits. omega (arith, least, fits, c.in_err-checked_mul.ensures))

pub returns-in_err-number-clause-none : goal.returns-in_err-number-clause-none
returns-in_err-number-clause-none c =
    let l = c.loop-byte in
    let least = next_value l.number l.byte-index c.args.word.now (omega arith) l.invariant.value in
    let digit = c.in_ok-digit.ensures.some in
    rw c.from_residual-in_err-number.ensures
    (λ numeral fits. omega (arith, least, fits, digit.0, c.in_ok-checked_mul.ensures, c.in_err-number.ensures))
