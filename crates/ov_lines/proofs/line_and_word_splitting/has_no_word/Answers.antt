-- Nothing is left if there is no first word.
use Rattle.std.proofs.Common.{rules, ◌≡◌, ◌∙◌, not, is_some}
use Rattle.ov_lines.specs.Code.Spaced.{first_word}
use Rattle.ov_lines.proofs.Lines.Parted.{none_left}
use Rattle.ov_lines.proofs.line_and_word_splitting.has_no_word.Goals as goal

pub returns : goal.returns
returns c =
    let first : c.is_none.result ≡ not (is_some (first_word c.args.text.now)) = search rules in
    first ∙ none_left c.args.text.now
