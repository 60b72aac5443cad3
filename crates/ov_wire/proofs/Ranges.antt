-- Lists of messages within their ranges.
use Rattle.std.proofs.Common.{ℕ, List, [], ◌∷◌, ◌++◌}
use Rattle.std.specs.Prelude.{map}
use Rattle.ov_wire.specs.Messages.{AreInRange, AreSendsInRange}
use Rattle.ov_wire.specs.declared.message.Message.{Message}

-- each message that is sent has its fields within their ranges
abbrev pub Ranged : List (ℕ × Message) → Type 0
Ranged sends = AreSendsInRange sends

pub Ranged-append : (xs ys : List (ℕ × Message)) → Ranged xs → Ranged ys → Ranged (xs ++ ys)
Ranged-append [] ys a b = b
Ranged-append (x ∷ xs) ys a b = (a.0, Ranged-append xs ys a.1 b)

-- one message, sent to each of these nodes
pub Ranged-each : (m : Message) → AreInRange m → (to : List ℕ) → Ranged (map (λ x. (x, m)) to)
Ranged-each m fits [] = tt
Ranged-each m fits (x ∷ to) = (fits, Ranged-each m fits to)
