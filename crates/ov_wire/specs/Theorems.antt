-- Theorems of the wire.
use Rattle.std.specs.Prelude.{◌≡◌, ℕ, ◌⊎◌, List, [], ◌++◌}
use Rattle.ov_wire.specs.declared.fault.WireFault.{WireFault}
use Rattle.ov_wire.specs.declared.message.Message.{Message}
use Rattle.ov_wire.specs.Messages.{Spelling}
use Rattle.ov_wire.specs.Faults.{FirstFault}

-- no message has two spellings
abbrev pub OneSpelling : Type 0
OneSpelling = (m : Message) (a b : List ℕ) → Spelling m a → Spelling m b → a ≡ b

-- no bytes spell two messages
abbrev pub OneMessage : Type 0
OneMessage = (m n : Message) (bytes : List ℕ) → Spelling m bytes → Spelling n bytes → m ≡ n

-- no spelling is a proper prefix of another, of the same message or of another message
abbrev pub NoneBeginsAnother : Type 0
NoneBeginsAnother = (m n : Message) (a more : List ℕ) → Spelling m a → Spelling n (a ++ more) → more ≡ []

-- bytes have at most one first fault, and none if they spell a message
abbrev pub OneFirstFault : Type 0
OneFirstFault = (bytes : List ℕ) (f : WireFault) → FirstFault bytes f →
    ((g : WireFault) → FirstFault bytes g → f ≡ g) × ((m : Message) → ¬ Spelling m bytes)

-- the bytes spell a message or have a first fault
abbrev pub SpelledOrAtFault : List ℕ → Type 0
SpelledOrAtFault bytes = ((m : Message) × Spelling m bytes) ⊎ ((f : WireFault) × FirstFault bytes f)
