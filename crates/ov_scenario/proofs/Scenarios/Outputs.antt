-- The next outputs of a generator, as a function of its stream.
use Rattle.std.proofs.Common.{◌≡◌, ◌∙◌, ℕ, zero, suc, List, [], ◌∷◌, length, refl, ap, sym, subst}
use Rattle.rand_core.specs.Stream.{Stream, next_u64}
use Rattle.ov_words.specs.Stream.{AreOutputs, words_per_event}
use Rattle.ov_scenario.specs.Code.RunnableLines.{outputs}

-- they are outputs of the generator
pub are_outputs : (n : ℕ) (stream : Stream) → AreOutputs stream (outputs n stream).0 (outputs n stream).1
unfolding outputs
are_outputs zero stream = refl
are_outputs (suc n) stream = (refl, are_outputs n (next_u64 stream).1)

-- they are so many
pub count_outputs : (n : ℕ) (stream : Stream) → length (outputs n stream).0 ≡ n
unfolding outputs
count_outputs zero stream = refl
count_outputs (suc n) stream = ap suc (count_outputs n (next_u64 stream).1)

-- there are no others
pub outputs_are : (stream : Stream) (words : List ℕ) (left : Stream) → AreOutputs stream words left
    → outputs (length words) stream ≡ (words, left)
unfolding outputs
outputs_are stream [] left same = ap (λ (s : Stream). ([], s)) (sym same)
outputs_are stream (word ∷ words) left (first, rest) =
    ap (λ (p : List ℕ × Stream). ((next_u64 stream).0 ∷ p.0, p.1)) (outputs_are (next_u64 stream).1 words left rest)
    ∙ ap (λ w. (w ∷ words, left)) first

-- the words of one event
pub outputs_drawn :
    (stream left : Stream) (words : List ℕ) → length words ≡ words_per_event → AreOutputs stream words left
    → outputs words_per_event stream ≡ (words, left)
outputs_drawn stream left words count are =
    subst (λ n. outputs n stream ≡ (words, left)) count (outputs_are stream words left are)
