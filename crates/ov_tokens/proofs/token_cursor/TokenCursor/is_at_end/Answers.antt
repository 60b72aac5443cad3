-- Behind the last value and without a byte, no token is left.
use Rattle.std.proofs.Common.{◌≡◌, ◌∙◌, length, sym, ap, arith}
use Rattle.std.proofs.lemmas.Grind.{common_steps}
use Rattle.std.proofs.lemmas.List.{nil_from_length}
use Rattle.ov_tokens.specs.Code.Left.{tokens_at}
use Rattle.ov_tokens.proofs.Lexed.{none_left}
use Rattle.ov_tokens.proofs.token_cursor.TokenCursor.is_at_end.Goals as goal

pub returns-in-AfterValue : goal.returns-in-AfterValue
returns-in-AfterValue c h =
    let a = c.self.inside in
    let none : length a.rest.now ≡ 0 = grind (arith, common_steps, h) in
    sym c.self.view_is ∙ ap (λ p. tokens_at p a.rest.now) c.in-AfterValue.is
    ∙ none_left a.rest.now (nil_from_length a.rest.now none)
