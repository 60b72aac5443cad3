-- The first digit, and those behind it.
use Rattle.std.proofs.Common.{◌≡◌, ◌∙◌, ◌+◌, arith}
use Rattle.ov_tokens.proofs.Lexed.{digit_first}
use Rattle.ov_tokens.proofs.token_texts.number_in.Goals as goal

pub returns-then-first-eq0 : goal.returns-then-first-eq0
returns-then-first-eq0 c =
    let zero : c.in_ok-byte.byte.now ≡ 48 + 0 = grind arith in
    digit_first c.in_ok-byte.byte.now 0 c.args.text.now c.in_ok-byte.rest.now c.in_ok-byte.ensures.cases.0 zero
    (omega arith)

pub returns : goal.returns
returns c =
    let digit = c.in_ok-first.ensures in
    digit_first c.in_ok-byte.byte.now c.in_ok-first.first c.args.text.now c.in_ok-byte.rest.now
    c.in_ok-byte.ensures.cases.0 digit.0 digit.1 ∙ c.in_ok-number.ensures
