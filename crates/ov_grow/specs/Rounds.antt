-- Rounds of shuffles. s is before, and u after. Chosen here.
use Rattle.std.specs.Prelude.{◌≡◌, ℕ, zero, suc, List, [], ◌∷◌}
use Rattle.rand_pcg.specs.Lcg.{Lcg}
use Rattle.ov_script.specs.declared.recordable_event.Act.{Act}
use Rattle.ov_script.specs.declared.recordable_event.Act.TheVariants as act
use Rattle.ov_grow.specs.Choices.{IsRandomOrder}
use Rattle.ov_grow.specs.Growth.{Growth, Does, AreLive}
use Rattle.ov_grow.specs.Turns.{RunOut}
use Rattle.ov_grow.specs.declared.phase_rules.PhaseRules.{PhaseRules}

-- an act is done for each of these nodes, in this order
abbrev pub DoesEach : (ℕ → Act) → List ℕ → Growth → Growth → Type 0
DoesEach what [] s u = u ≡ s
DoesEach what (node ∷ more) s u = (t : Growth) × Does s (what node) t × DoesEach what more t u

-- the nodes that live, in a random order
abbrev pub AreLiveInOrder : Growth → List ℕ → Growth → Type 0
AreLiveInOrder s order u =
    (live : List ℕ) × (after : Lcg)
    × AreLive s live × IsRandomOrder live order s.choices after × (u ≡ record s { choices = after })

-- a round: every node that lives now starts a shuffle, in a random order of them, and then packets run out
abbrev pub Round : PhaseRules → Growth → Growth → Type 0
Round rules s u =
    (order : List ℕ) × (t : Growth) × (v : Growth)
    × AreLiveInOrder s order t × DoesEach act.Shuffle order t v × RunOut rules v u

-- so many rounds
abbrev pub Rounds : PhaseRules → ℕ → Growth → Growth → Type 0
Rounds rules zero s u = u ≡ s
Rounds rules (suc n) s u = (t : Growth) × Round rules s t × Rounds rules n t u
