-- the words so far, of which there is one at least, and those that are left
use Rattle.std.proofs.Common.{length, ◌<◌}
use Rattle.ov_lines.specs.Lines.{words_of}
use Rattle.ov_scenario.proofs.Lines.Filling.{Fills}
use Rattle.ov_scenario.proofs.given_random_words_reading.read_event_words.Given as goal

abbrev pub invariant-loop-words : goal.invariant-loop-words
invariant-loop-words l =
    record {
      fills : Fills 64 64 (words_of l.fn.cursor) (words_of l.cursor) l.count l.words;
      some : 0 < l.count;
    }

abbrev pub decreases-loop-words : goal.decreases-loop-words
decreases-loop-words l = length (words_of l.cursor)
