-- The first word, and a word more than there is room for.
use Rattle.std.proofs.Common.{◌∙◌, set, replicate, sym, refl, arith}
use Rattle.ov_lines.specs.Lines.{words_of}
use Rattle.ov_scenario.proofs.Lines.Filling.{first_filled, full}
use Rattle.ov_scenario.proofs.given_random_words_reading.read_event_words.Goals as goal

pub loop-words-init : goal.loop-words-init
loop-words-init c =
    let n = c.in_ok-words.field-0 in
    record {
      fills =
          first_filled (words_of c.args.cursor.now) (words_of c.number.new.self) n (set (replicate 64 0) 0 n)
          (replicate 64 0) (sym (c.in_ok-words.ensures.number)) c.number.ensures.left refl refl;
      some = omega arith;
    }

pub returns-then-count-eq-WORDS_PER_EVENT : goal.returns-then-count-eq-WORDS_PER_EVENT
returns-then-count-eq-WORDS_PER_EVENT c =
    sym (full (words_of c.args.cursor.now) (words_of c.loop-words.cursor) c.loop-words.count c.loop-words.words
    c.loop-words.invariant.fills (sym c.is_at_end.ensures ∙ c.loop-words-test.true)
    c.if-count-eq-WORDS_PER_EVENT.true)
