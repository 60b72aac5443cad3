-- One character more, and all characters.
use Rattle.std.proofs.Common.{◌∙◌, ◌++◌, ap, append-nil, append_assoc, chars, string_bytes, sym}
use Rattle.std.specs.Str.Iter.{chars_rest}
use Rattle.std.proofs.lemmas.List.{nil_from_length}
use Rattle.std.proofs.lemmas.Str.{chars-nil}
use Rattle.ov_dump.specs.ShownNames.{shown_char, shown_chars}
use Rattle.ov_dump.proofs.OneShown.{chars_next}
use Rattle.ov_dump.proofs.names_shown_on_one_line.shown_name.Goals as goal

pub loop-c-preserved : goal.loop-c-preserved
loop-c-preserved c =
    let text = string_bytes c.loop-c.text in
    let rest = chars_rest c.next.new.self in
    let next = chars_next (chars_rest c.loop-c.left) rest c.in-Some.c c.loop-c.invariant.utf8
    c.in-Some.ensures.steps.0 in
    let own = shown_char c.in-Some.c (chars rest) in
    record {
      shown = ap (λ t. t ++ shown_chars (chars rest))
          (c.in_ok-push_shown.ensures ∙ ap (λ t. text ++ shown_char c.in-Some.c (chars t)) c.as_str.ensures)
          ∙ append_assoc text own (shown_chars (chars rest))
          ∙ ap (λ cs. text ++ shown_chars cs) (sym next.0) ∙ c.loop-c.invariant.shown;
      utf8 = next.1;
    }

pub returns-clause-shown : goal.returns-clause-shown
returns-clause-shown c =
    let text = string_bytes c.loop-c.text in
    let none = nil_from_length (chars_rest c.loop-c.left) c.in_default.ensures.steps.0.0 in
    sym (append-nil text) ∙ ap (λ cs. text ++ shown_chars cs) (sym (ap chars none ∙ chars-nil))
    ∙ c.loop-c.invariant.shown
