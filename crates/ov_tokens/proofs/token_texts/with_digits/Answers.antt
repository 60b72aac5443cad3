-- One more digit was read.
use Rattle.std.proofs.Common.{◌≡◌, ◌∙◌, ◌+◌, ◌*◌, ◌^◌, ◌<◌, arith}
use Rattle.ov_tokens.proofs.Lexed.{digit_more}
use Rattle.ov_tokens.proofs.token_texts.with_digits.Goals as goal

pub loop-byte-preserved : goal.loop-byte-preserved
loop-byte-preserved c =
    let l = c.loop-byte in
    let digit = c.in-Some-digit_of.ensures in
    let is : c.in_ok-number.number ≡ l.number * 10 + c.in-Some-digit_of.digit = grind arith in
    let small : c.in_ok-number.number < 2 ^ 64 = grind arith in
    record {
      some = omega (arith, is, l.invariant.some);
      same = l.invariant.same
          ∙ digit_more l.number c.in-Some-digit_of.digit c.in_ok-number.number c.in-Some.byte.now l.rest.now
          c.in-Some.after.now l.invariant.some digit.1 is small digit.0 c.in-Some.ensures.cases.0;
    }
