-- A word behind all numbers.
use Rattle.std.proofs.Common.{◌∙◌, sym}
use Rattle.ov_lines.specs.Lines.{words_of}
use Rattle.ov_scenario.proofs.Lines.Filling.{one_too_many}
use Rattle.ov_scenario.proofs.statement_reading.read_numbers.Goals as goal

pub returns : goal.returns
returns c =
    sym (one_too_many (words_of c.args.cursor.now) (words_of c.loop-count.cursor) c.loop-count.count
    c.loop-count.numbers c.loop-count.invariant.fills c.loop-count-test.false
    (sym c.is_at_end.ensures ∙ c.if-is_at_end.false))
