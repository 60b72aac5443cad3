-- The message that bytes spell, as a function of the bytes.
use Rattle.std.specs.Prelude.{ℕ, ◌-◌, ◌==◌, List, [], ◌∷◌, drop, get_or, slice_index, Result, Ok, Err}
use Rattle.ov_ids.specs.declared.id.MsgId.{MsgId}
use Rattle.ov_wire.specs.declared.fault.WireFault.{WireFault}
use Rattle.ov_wire.specs.declared.message.Message.{Message}
use Rattle.ov_wire.specs.declared.message.Body.{Body}
use Rattle.ov_wire.specs.declared.message.Body.TheVariants.{Join, ForwardJoin, Joined, Neighbor, NeighborReply}
use Rattle.ov_wire.specs.declared.message.Body.TheVariants.{Disconnect, Shuffle, ShuffleReply, Gossip}
use Rattle.ov_wire.specs.declared.message.Body.TheVariants.{IHave, Graft, Prune}
use Rattle.ov_wire.specs.Fields.{Value, One, Many}
use Rattle.ov_wire.specs.Messages.{fields_of}
use Rattle.ov_wire.specs.Code.Reading.{values_at}

-- the number at a place
unfoldable pub number_in : List Value → ℕ → ℕ
number_in values i = of (get_or values i (One 0))
  where
    of : Value → ℕ
    of (One n) = n
    of (Many ns) = 0

-- the list at a place
unfoldable pub list_in : List Value → ℕ → List ℕ
list_in values i = of (get_or values i (One 0))
  where
    of : Value → List ℕ
    of (One n) = []
    of (Many ns) = ns

-- the id of a broadcast, which is the first two values
abbrev pub id_in : List Value → MsgId
id_in values = record { origin = number_in values 0; seq = number_in values 1 }

-- the body of a message of this kind with these values
unfoldable pub body_in : ℕ → List Value → Body
body_in kind values = get_or
    (Join ∷ ForwardJoin (number_in values 0) (number_in values 1) ∷ Joined ∷ Neighbor (number_in values 0 == 1)
    ∷ NeighborReply (number_in values 0 == 1) ∷ Disconnect
    ∷ Shuffle (number_in values 0) (number_in values 1) (list_in values 2) ∷ ShuffleReply (list_in values 0)
    ∷ Gossip (id_in values) (number_in values 2) (list_in values 3) ∷ IHave (id_in values) ∷ Graft (id_in values)
    ∷ Prune ∷ []) (kind - 1) Prune

-- the message with these values, which begin with version, kind and sender
unfoldable pub message_with : Result (List Value) WireFault → Message
message_with (Ok values) = record { from = number_in values 2; body = body_in (number_in values 1) (drop 3 values) }
message_with (Err fault) = record { from = 0; body = Prune }

-- the message that the bytes spell; any message if they spell none
abbrev pub message_in : List ℕ → Message
message_in bytes = message_with (values_at (fields_of (slice_index bytes 1)) bytes)
