-- The bytes begin as the characters do.
use Rattle.std.proofs.Common.{◌∙◌, ap, chars, codes, nat_eq, sym}
use Rattle.std.specs.List.{starts_with}
use Rattle.std.proofs.lemmas.Str.{encodes-chars}
use Rattle.ov_dump.proofs.OneShown.{begins_alike}
use Rattle.ov_dump.proofs.names_shown_on_one_line.begins_code.Goals as goal

pub returns : goal.returns
returns c =
    let text = c.args.text.now in
    c.starts_with.ensures.value
    ∙ ap (λ t. starts_with nat_eq t (codes "u{")) (c.as_bytes.ensures.value ∙ sym (encodes-chars text c.utf8.text))
    ∙ begins_alike (chars text)
