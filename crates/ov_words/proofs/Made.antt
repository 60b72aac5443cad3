-- Words that a generator makes.
use Rattle.std.proofs.Common.{◌≡◌, ℕ, zero, suc, ◌<◌, ◌+◌, ◌-◌, List, [], ◌∷◌, ◌++◌, length, refl, sym, ap, subst}
use Rattle.std.proofs.Common.{◌∙◌, append-nil, arith, length-append}
use Rattle.rand_core.specs.Stream.{next_u64}
use Rattle.rand_core.specs.Steps.{first_words, stream_of, steps_u64_low}
use Rattle.rand_pcg.specs.Lcg.{Lcg, advance, state_after}
use Rattle.rand_pcg.specs.Pcg.{multiplier_128, pcg64}
use Rattle.ov_words.specs.Stream.{AreOutputs, words_per_event}
use Rattle.ov_words.specs.Code.Making.{all_words}

-- there are as many as are asked for
pub length_first : (n : ℕ) (g : Lcg) → length (first_words pcg64 n g) ≡ n
unfolding first_words
length_first zero g = refl
length_first (suc n) g = ap suc (length_first n (pcg64 g).1)

-- how many words are left
pub length_left : (listed : List ℕ) (more : ℕ) (g : Lcg)
    → length (listed ++ first_words pcg64 more g) ≡ length listed + more
length_left listed more g =
    length-append listed (first_words pcg64 more g) ∙ ap (λ n. length listed + n) (length_first more g)

-- nothing is made if all words are listed
pub all_listed : (listed : List ℕ) (g : Lcg) → length listed ≡ words_per_event → all_words listed g ≡ listed
unfolding first_words
all_listed listed g all =
    let none : words_per_event - length listed ≡ zero = omega (arith, all) in
    ap (λ n. listed ++ first_words pcg64 n g) none ∙ append-nil listed

-- all words are made if none is listed
pub all_made : (g : Lcg) → length (all_words [] g) ≡ words_per_event
all_made g = length_first words_per_event g

-- the words that are made are the outputs of the generator, which is so far on then
outputs_first : (n : ℕ) (g : Lcg)
    → AreOutputs (stream_of (steps_u64_low pcg64) g) (first_words pcg64 n g)
    (stream_of (steps_u64_low pcg64) (advance 128 multiplier_128 n g))
unfolding first_words stream_of next_u64 state_after
outputs_first zero g = refl
outputs_first (suc n) g = (refl, outputs_first n (pcg64 g).1)

pub outputs_made : (g later : Lcg) → later ≡ advance 128 multiplier_128 words_per_event g
    → AreOutputs (stream_of (steps_u64_low pcg64) g) (all_words [] g) (stream_of (steps_u64_low pcg64) later)
outputs_made g later moved =
    subst (λ h. AreOutputs (stream_of (steps_u64_low pcg64) g) (all_words [] g) (stream_of (steps_u64_low pcg64) h))
    (sym moved) (outputs_first words_per_event g)

-- the next word is one that is listed
pub next_listed : (listed rest : List ℕ) (word more : ℕ) (g : Lcg) → listed ≡ word ∷ rest
    → listed ++ first_words pcg64 more g ≡ word ∷ (rest ++ first_words pcg64 more g)
next_listed listed rest word more g first = ap (λ l. l ++ first_words pcg64 more g) first

-- the next word is made
pub next_made : (more : ℕ) (g later : Lcg) (word : ℕ) → 0 < more → (word, later) ≡ pcg64 g
    → first_words pcg64 more g ≡ word ∷ first_words pcg64 (more - 1) later
unfolding first_words
next_made zero g later word some call = absurd (omega (arith, some))
next_made (suc n) g later word some call =
    let less : suc n - 1 ≡ n = omega arith in
    rw less (ap (λ p. p.0 ∷ first_words pcg64 n p.1) (sym call))
