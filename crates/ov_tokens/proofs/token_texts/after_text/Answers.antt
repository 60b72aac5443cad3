-- A quote, the text, and a quote.
use Rattle.std.proofs.Common.{◌∙◌, ◌++◌, List, ℕ, ap}
use Rattle.ov_tokens.proofs.Lexed.{text_lexed}
use Rattle.ov_tokens.proofs.token_texts.after_text.Goals as goal

pub returns : goal.returns
returns c =
    let behind = c.in_ok-behind.behind.now in
    text_lexed c.args.wanted.now c.args.text.now c.in_ok-inside.inside.now behind c.in_ok-rest.rest.now
    c.after_space.result.now c.requires c.in_ok-inside.ensures
    (c.in_ok-behind.ensures ∙ ap (λ (p : List ℕ). p ++ behind) c.as_bytes.ensures.value) c.in_ok-rest.ensures
    c.after_space.ensures
