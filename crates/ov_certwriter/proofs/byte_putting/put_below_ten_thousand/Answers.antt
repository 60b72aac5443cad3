-- The digits up to the third last, and two more.
use Rattle.std.proofs.Common.{◌≡◌, ◌∙◌, ◌+◌, ◌/◌, ◌%◌, [], ◌∷◌, ◌++◌, ℕ, decimal, sym, ap, arith, append_assoc}
use Rattle.std.proofs.lemmas.Fmt.{decimal_step}
use Rattle.ov_certwriter.proofs.PutTexts.{puts_then, puts_same}
use Rattle.ov_certwriter.proofs.byte_putting.put_below_ten_thousand.Goals as goal

pub returns : goal.returns
returns c =
    let n = c.args.number in
    let front = decimal (n / 100) in
    let next = (48 + n / 10 % 10) ∷ [] in
    let last = (48 + n % 10) ∷ [] in
    let hundreds : n / 10 / 10 ≡ n / 100 = omega arith in
    let tens = decimal_step (n / 10) (omega (arith, c.if-number-lt100.false)) (omega (arith, c.requires))
    ∙ ap (λ (m : ℕ). decimal m ++ next) hundreds in
    let is : front ++ (next ++ last) ≡ decimal n =
    sym (decimal_step n (omega (arith, c.if-number-lt100.false)) (omega (arith, c.requires))
    ∙ ap (λ l. l ++ last) tens ∙ append_assoc front next last) in
    puts_same _ _ _ _ _ _ is
    (puts_then front (next ++ last) _ _ _ _ _ _ c.put_below_hundred-tens_at.ensures
    (puts_then next last _ _ _ _ _ _ c.put_digit-ones_at.ensures c.put_digit.ensures))
