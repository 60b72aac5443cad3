-- The texts of the defaults that are numbers.
use Rattle.std.proofs.Common.{◌≡◌, ◌∙◌, ◌++◌, ◌∷◌, [], ap, arith}
use Rattle.std.specs.Prelude.{codes, decimal}
use Rattle.std.proofs.lemmas.Fmt.{decimal_digit, decimal_step}

pub thirty : decimal 30 ≡ codes "30"
thirty =
    decimal_step 30 (omega arith) (omega arith)
    ∙ ap (λ text. text ++ (48 ∷ [])) (decimal_digit 3 (omega arith))

ten : decimal 10 ≡ codes "10"
ten =
    decimal_step 10 (omega arith) (omega arith)
    ∙ ap (λ text. text ++ (48 ∷ [])) (decimal_digit 1 (omega arith))

pub hundred : decimal 100 ≡ codes "100"
hundred = decimal_step 100 (omega arith) (omega arith) ∙ ap (λ text. text ++ (48 ∷ [])) ten
