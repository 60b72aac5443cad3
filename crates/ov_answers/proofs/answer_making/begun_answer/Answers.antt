-- The line of the answer, and the lines behind it.
use Rattle.std.proofs.Common.{◌∙◌, ℕ, List, ◌++◌, ap}
use Rattle.ov_answers.proofs.answer_making.begun_answer.Goals as goal

pub returns-clause-lines : goal.returns-clause-lines
returns-clause-lines c =
    let lines = c.in_ok-write_between.ensures in
    let line = c.in_ok-text.ensures.items ∙ c.as_bytes.ensures.value ∙ c.in_ok-line.ensures in
    (lines.0, lines.1, lines.2 ∙ ap (λ (t : List ℕ). t ++ lines.0) line)
