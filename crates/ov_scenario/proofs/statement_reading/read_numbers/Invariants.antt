-- the numbers so far, and the words that are left
use Rattle.std.proofs.Common.{◌-◌}
use Rattle.ov_lines.specs.Lines.{words_of}
use Rattle.ov_scenario.proofs.Lines.Filling.{Fills}
use Rattle.ov_scenario.proofs.statement_reading.read_numbers.Given as goal

abbrev pub invariant-loop-count : goal.invariant-loop-count
invariant-loop-count l =
    record { fills : Fills 32 7 (words_of l.fn.cursor) (words_of l.cursor) l.count l.numbers }

abbrev pub decreases-loop-count : goal.decreases-loop-count
decreases-loop-count l = 7 - l.count
