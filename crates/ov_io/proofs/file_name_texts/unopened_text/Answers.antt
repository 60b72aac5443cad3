-- The cause stands behind the name and the words between.
use Rattle.std.proofs.Common.{◌++◌, ◌∙◌, ap, append_assoc, codes}
use Rattle.std.specs.Str.{chars}
use Rattle.ov_io.specs.Name.{shown_chars}
use Rattle.ov_io.proofs.file_name_texts.unopened_text.Goals as goal

pub returns : goal.returns
returns c =
    let cause = c.as_str.result.now in
    let name = shown_chars (chars c.args.name.now) in
    let words = codes " can't be opened: " in (
      cause,
      c.in_ok-push_str-2.ensures.bytes ∙ ap (λ t. t ++ cause) c.in_ok-push_str.ensures.bytes
          ∙ ap (λ t. (t ++ words) ++ cause) c.in_ok-text.ensures ∙ append_assoc name words cause,
    )
