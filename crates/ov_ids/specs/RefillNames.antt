-- The words for the rules at DISCONNECT, in scenario files, options and rows: chosen here.
use Rattle.std.specs.Prelude.{ℕ, List, [], ◌∷◌, codes, nat_eq, Option}
use Rattle.std.specs.List.{find}
use Rattle.std.specs.Cmp.Lexicographic.{pointwise}
use Rattle.ov_ids.specs.declared.refill_rule.Refill.{Refill}
use Rattle.ov_ids.specs.declared.refill_rule.Refill.TheVariants.{Never, Alone, Always}

-- the word for a rule
abbrev pub refill_name : Refill → List ℕ
refill_name Never = codes "never"
refill_name Alone = codes "alone"
refill_name Always = codes "always"

-- the rule with this word, or None if it is the word for none
abbrev pub refill_named : List ℕ → Option Refill
refill_named name = find (λ rule. pointwise nat_eq name (refill_name rule)) (Never ∷ Alone ∷ Always ∷ [])
