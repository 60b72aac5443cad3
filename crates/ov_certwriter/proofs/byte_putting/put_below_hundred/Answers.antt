-- One digit, or two.
use Rattle.std.proofs.Common.{◌≡◌, ◌∙◌, ◌+◌, ◌/◌, ◌%◌, [], ◌∷◌, ◌++◌, decimal, sym, ap, arith}
use Rattle.std.proofs.lemmas.Fmt.{decimal_digit, decimal_step}
use Rattle.ov_certwriter.proofs.PutTexts.{puts_then, puts_same}
use Rattle.ov_certwriter.proofs.byte_putting.put_below_hundred.Goals as goal

pub returns-then-number-lt10 : goal.returns-then-number-lt10
returns-then-number-lt10 c =
    puts_same _ _ _ _ _ _ (sym (decimal_digit c.args.number c.if-number-lt10.true)) c.put_digit.ensures

pub returns : goal.returns
returns c =
    let n = c.args.number in
    let last = (48 + n % 10) ∷ [] in
    let is : (48 + n / 10) ∷ last ≡ decimal n =
    sym (decimal_step n c.if-number-lt10.false (omega (arith, c.requires))
    ∙ ap (λ l. l ++ last) (decimal_digit (n / 10) (omega (arith, c.requires)))) in
    puts_same _ _ _ _ _ _ is
    (puts_then ((48 + n / 10) ∷ []) last _ _ _ _ _ _ c.put_digit-ones_at.ensures c.put_digit-2.ensures)
