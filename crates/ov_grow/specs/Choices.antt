-- The choices of growing. They are drawn from a generator of their own, so they are no choices of the nodes. Chosen
-- here.
use Rattle.std.specs.Prelude.{◌≡◌, ℕ, ◌%◌, ◌-◌, ◌^◌, Bool, false, ◌==◌, if◌then◌else◌, List, [], ◌∷◌, length}
use Rattle.std.specs.Prelude.{slice_get, Some, nat_lt}
use Rattle.std.specs.List.{remove}
use Rattle.rand_core.specs.Pcg32Seed.{pcg32_seed}
use Rattle.rand_pcg.specs.Lcg.{Lcg}
use Rattle.rand_pcg.specs.Pcg.{pcg64, pcg64_of_seed}

-- all choices of growing with this seed: the generator `Pcg64` that `seed_from_u64` makes of the seed with every bit
-- inverted
unfoldable pub choices_of : ℕ → Lcg
choices_of seed = pcg64_of_seed (pcg32_seed 32 (2 ^ 64 - 1 - seed))

-- the next number: the next output of the generator
unfoldable pub next_number : Lcg → ℕ
next_number choices = (pcg64 choices).0

-- the choices that are left after the next number
unfoldable pub later : Lcg → Lcg
later choices = (pcg64 choices).1

-- one of n, counted from 0
abbrev pub one_of : ℕ → Lcg → ℕ
one_of n choices = next_number choices % n

-- whether a chance of p in 100 comes true. If p is 0 it does not
abbrev pub comes_true : ℕ → Lcg → Bool
comes_true p choices = if p == 0 then false else nat_lt (next_number choices % 100) p

-- the choices that are left after a chance of p in 100. If p is 0 no number is drawn
abbrev pub after_chance : ℕ → Lcg → Lcg
after_chance p choices = if p == 0 then choices else later choices

-- a random order of a list: again and again one of those that are left is chosen, which keep their order. `after` are
-- the choices that are left
abbrev pub IsRandomOrder : List ℕ → List ℕ → Lcg → Lcg → Type 0
IsRandomOrder ids [] before after = (ids ≡ []) × (after ≡ before)
IsRandomOrder ids (first ∷ order) before after =
    (slice_get ids (one_of (length ids) before) ≡ Some first)
    × IsRandomOrder (remove ids (one_of (length ids) before)) order (later before) after
