-- What private contracts say of messages.
use Rattle.std.specs.Prelude.{ℕ, ◌≤◌, List, length}
use Rattle.ov_wire.specs.Messages.{AreSendsInRange, kind_of}
use Rattle.ov_wire.specs.declared.message.Body.{Body}
use Rattle.ov_wire.specs.declared.message.Message.{Message}
use Rattle.ov_peer.specs.Limits.{most_sends}

-- These messages may be sent in one step: they are at most 64, and the fields of each are within their ranges.
abbrev pub AreSendable : List (ℕ × Message) → Type 0
AreSendable sends = (length sends ≤ most_sends) × AreSendsInRange sends

-- The message is one of HyParView's, and none of Plumtree's: it has one of the kinds 1 to 8.
abbrev pub IsOfHyParView : Body → Type 0
IsOfHyParView body = kind_of body ≤ 8
