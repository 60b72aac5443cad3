-- The random words that a seed gives to events. The generator is `Pcg64` of the crate `rand_pcg`; that it is used in
-- this way is chosen here.
use Rattle.std.specs.Prelude.{◌≡◌, ℕ, List, [], ◌∷◌, length}
use Rattle.rand_core.specs.Stream.{Stream}
use Rattle.rand_core.specs.Steps.{stream_of, steps_u64_low}
use Rattle.rand_core.specs.Pcg32Seed.{pcg32_seed}
use Rattle.rand_pcg.specs.Pcg.{pcg64, pcg64_of_seed}
use Rattle.ov_words.specs.Stream.{AreOutputs, words_per_event}

-- the bytes of the whole seed that `seed_from_u64` makes of a number
abbrev pub seed_bytes : ℕ
seed_bytes = 32

-- what the generator `Pcg64` returns, from its first call on, if `seed_from_u64` made it of this number
unfoldable pub seeded : ℕ → Stream
seeded seed = stream_of (steps_u64_low pcg64) (pcg64_of_seed (pcg32_seed seed_bytes seed))

-- these are the random words of events, event after event: the next outputs of a generator with this stream to
-- `next_u64`. `left` is its stream after these calls
abbrev pub AreDraws : Stream → List (List ℕ) → Stream → Type 0
AreDraws stream [] left = left ≡ stream
AreDraws stream (words ∷ rest) left =
    (length words ≡ words_per_event) × ((later : Stream) × AreOutputs stream words later × AreDraws later rest left)
