-- The entry that was recorded last.
use Rattle.std.proofs.Common.{◌≡◌, ◌∙◌, ◌++◌, ◌∷◌, ◌-◌, ◌+◌, ◌<◌, [], List, length, slice_get, Some, arith, ap, refl}
use Rattle.std.proofs.Common.{sym}
use Rattle.std.proofs.lemmas.List.{length-append}

at_end : {X : Type 0} (xs : List X) (y : X) → slice_get (xs ++ y ∷ []) (length xs) ≡ Some y
at_end [] y = refl
at_end (x ∷ xs) y = at_end xs y

-- a journal that goes on by an entry has one
pub some_recorded : {X : Type 0} (before after : List X) (e : X) → after ≡ before ++ e ∷ [] → 0 < length after
some_recorded before after e is =
    let long : length (before ++ e ∷ []) ≡ length before + 1 = length-append before (e ∷ []) in
    let same : length after ≡ length (before ++ e ∷ []) = ap length is in
    omega (arith, long, same)

-- and that is the last one
pub recorded : {X : Type 0} (before after : List X) (e r : X) → after ≡ before ++ e ∷ []
    → slice_get after (length after - 1) ≡ Some r → r ≡ e
recorded before after e r is last =
    let long : length (before ++ e ∷ []) ≡ length before + 1 = length-append before (e ∷ []) in
    let same : length after ≡ length (before ++ e ∷ []) = ap length is in
    let at : length after - 1 ≡ length before = omega (arith, long, same) in
    let found : Some r ≡ Some e =
    sym last ∙ ap (λ xs. slice_get xs (length after - 1)) is ∙ ap (slice_get (before ++ e ∷ [])) at
    ∙ at_end before e in
    cc
