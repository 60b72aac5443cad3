-- Words that a generator returns, one after another.
use Rattle.std.specs.Prelude.{◌≡◌, ℕ, List, [], ◌∷◌}
use Rattle.rand_core.specs.Stream.{Stream, next_u64}

-- how many random words come with an event: chosen here
abbrev pub words_per_event : ℕ
words_per_event = 64

-- A generator with this stream returns these words in order, each by one call of `next_u64`. Its stream after these
-- calls is `left`.
abbrev pub AreOutputs : Stream → List ℕ → Stream → Type 0
AreOutputs stream [] left = left ≡ stream
AreOutputs stream (word ∷ words) left = ((next_u64 stream).0 ≡ word) × AreOutputs (next_u64 stream).1 words left
