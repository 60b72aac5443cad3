-- The random words of an event, as a line to run keeps them.
use Rattle.std.specs.Prelude.{ℕ, List, replicate}
use Rattle.ov_words.specs.Stream.{words_per_event}
use Rattle.ov_scenario.specs.declared.event_words.WordSource.{WordSource}
use Rattle.ov_scenario.specs.declared.event_words.WordSource.TheVariants as source

-- the words that come from there
abbrev pub words_from : WordSource → List ℕ
words_from (source.Line words) = words
words_from (source.Seed words) = words
words_from source.Zeros = replicate words_per_event 0
