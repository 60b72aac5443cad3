use Rattle.std.proofs.Common.{take}
use Rattle.ov_words.specs.Stream.{AreOutputs}
use Rattle.ov_words.proofs.event_random_word_list.Words.from_rng.Given as goal

abbrev pub invariant-loop-word : goal.invariant-loop-word
invariant-loop-word g l = AreOutputs (g.R.Rng.stream l.fn.rng) (take l.word-index l.word-items) (g.R.Rng.stream l.rng)
