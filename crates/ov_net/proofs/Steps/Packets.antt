-- The bytes of a packet and its message.
use Rattle.std.proofs.Common.{◌≡◌, ℕ, List, subst, sym, ap}
use Rattle.ov_wire.specs.Code.Meaning.{message_in}
use Rattle.ov_wire.specs.Messages.{Spelling}
use Rattle.ov_wire.specs.declared.message.Message.{Message}
use Rattle.ov_wire.proofs.Messages.{means}

-- bytes that spell a message spell the one that they mean
pub spelled : (m : Message) (bytes : List ℕ) → Spelling m bytes → Spelling (message_in bytes) bytes
spelled m bytes s = subst (λ (n : Message). Spelling n bytes) (sym (means m bytes s)) s

-- a packet of these bytes is one of that message
pub packed : (to : ℕ) (m : Message) (bytes : List ℕ) → Spelling m bytes
    → ◌≡◌ {A = ℕ × Message} (to, message_in bytes) (to, m)
packed to m bytes s = ap {B = ℕ × Message} (λ (n : Message). (to, n)) (means m bytes s)
