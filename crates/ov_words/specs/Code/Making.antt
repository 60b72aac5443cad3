-- The words of an event, as they are kept.
use Rattle.std.specs.Prelude.{ℕ, ◌-◌, List, ◌++◌, length}
use Rattle.rand_core.specs.Steps.{first_words}
use Rattle.rand_pcg.specs.Lcg.{Lcg}
use Rattle.rand_pcg.specs.Pcg.{pcg64}
use Rattle.ov_words.specs.Stream.{words_per_event}

-- the words of an event: those that are listed, and then the next of a generator, as many as are missing
abbrev pub all_words : List ℕ → Lcg → List ℕ
all_words listed g = listed ++ first_words pcg64 (words_per_event - length listed) g
