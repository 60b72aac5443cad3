-- A line whose first word is another one.
use Rattle.std.proofs.Common.{rules, ◌≡◌, ◌∙◌, ◌==◌, ◌&&◌, false, ◌∷◌, length, codes, ap, sym}
use Rattle.ov_lines.specs.Lines.{same, words_of}
use Rattle.ov_scenario.proofs.Lines.Ending.{ends, ends_tested}
use Rattle.ov_scenario.proofs.lines_ahead.is_end_line.Goals as goal

pub returns-then-not-is_word : goal.returns-then-not-is_word
returns-then-not-is_word c =
    let text = c.args.text.now in
    let left = words_of c.word.new.self in
    let words : words_of text ≡ c.in-Some.name.now ∷ left = search rules in
    let other : same c.in-Some.name.now (codes "end") ≡ false = search rules in
    sym (ends_tested text (words_of text) ∙ ap ends words ∙ ap (λ t. t && (length left == 0)) other)
