-- The outputs of a generator, one call after another.
use Rattle.std.proofs.Common.{◌≡◌, ℕ, ◌<◌, ◌+◌, List, [], ◌∷◌, ◌++◌, length, take, set, sym, ap, subst}
use Rattle.std.proofs.lemmas.List.{take_more_set}
use Rattle.rand_core.specs.Stream.{Stream, next_u64}
use Rattle.ov_words.specs.Stream.{AreOutputs}

-- one more call
outputs_more : (stream : Stream) (words : List ℕ) (left later : Stream) (word : ℕ)
    → AreOutputs stream words left → (word, later) ≡ next_u64 left → AreOutputs stream (words ++ word ∷ []) later
outputs_more stream [] left later word same call =
    let P : Stream → Type 0 = λ s. ((next_u64 s).0 ≡ word) × (later ≡ (next_u64 s).1) in
    subst P same (sym (ap (λ p. p.0) call), ap (λ p. p.1) call)
outputs_more stream (first ∷ words) left later word outputs call =
    (outputs.0, outputs_more (next_u64 stream).1 words left later word outputs.1 call)

-- one more call, whose output is written at place i
pub outputs_written : (stream : Stream) (words : List ℕ) (i : ℕ) (left later : Stream) (word : ℕ)
    → AreOutputs stream (take i words) left → (word, later) ≡ next_u64 left → i < length words
    → AreOutputs stream (take (i + 1) (set words i word)) later
outputs_written stream words i left later word outputs call within =
    rw (take_more_set words i word within) (outputs_more stream (take i words) left later word outputs call)
