-- The messages of the wire: the fields of each kind, and the spelling of each message. The kinds 1, 2, 4 and 6 to 8 are
-- HyParView's (Leitão, Pereira, Rodrigues, DSN 2007), and 9 to 12 are Plumtree's (by the same, SRDS 2007). JOINED (3),
-- NEIGHBORREPLY (5) and the bytes are chosen here.
use Rattle.std.specs.Prelude.{ℕ, ◌-◌, ◌≤◌, Bool, List, [], ◌∷◌, length, slice_index_or, if◌then◌else◌}
use Rattle.std.specs.Int.{w8, w16, w32}
use Rattle.std.specs.List.{AllByRecursion}
use Rattle.ov_wire.specs.declared.fault.WireFault.TheVariants.{BadVersion, BadKind}
use Rattle.ov_wire.specs.declared.message.Message.{Message}
use Rattle.ov_wire.specs.declared.message.Body.{Body}
use Rattle.ov_wire.specs.declared.message.Body.TheVariants.{Join, ForwardJoin, Joined, Neighbor, NeighborReply}
use Rattle.ov_wire.specs.declared.message.Body.TheVariants.{Disconnect, Shuffle, ShuffleReply, Gossip}
use Rattle.ov_wire.specs.declared.message.Body.TheVariants.{IHave, Graft, Prune}
pub use Rattle.ov_wire.specs.Limits.{most_ttl, most_ids, most_payload}
use Rattle.ov_wire.specs.Fields.{Field, Number, Ids, Payload, up_to, any, Value, One, Many, Spells}

-- The fields after the sender, of the kinds 1, 2 and so on.
abbrev pub kinds : List (List Field)
kinds =
    []  -- 1 JOIN
    ∷ (any w32 ∷ up_to w8 most_ttl ∷ [])  -- 2 FORWARDJOIN: new node, time to live
    ∷ []  -- 3 JOINED
    ∷ (up_to w8 1 ∷ [])  -- 4 NEIGHBOR: whether the priority is high
    ∷ (up_to w8 1 ∷ [])  -- 5 NEIGHBORREPLY: whether it is accepted
    ∷ []  -- 6 DISCONNECT
    ∷ (any w32 ∷ up_to w8 most_ttl ∷ Ids ∷ [])  -- 7 SHUFFLE: origin, time to live, ids
    ∷ (Ids ∷ [])  -- 8 SHUFFLEREPLY: ids
    ∷ (any w32 ∷ any w32 ∷ any w16 ∷ Payload ∷ [])  -- 9 GOSSIP: origin, sequence, round, payload
    ∷ (any w32 ∷ any w32 ∷ [])  -- 10 IHAVE: origin, sequence
    ∷ (any w32 ∷ any w32 ∷ [])  -- 11 GRAFT: origin, sequence
    ∷ []  -- 12 PRUNE
    ∷ []

-- the fields after the sender, of this kind
abbrev pub own_fields : ℕ → List Field
own_fields kind = slice_index_or kinds (kind - 1) []

-- the last kind
abbrev pub most_kind : ℕ
most_kind = 12

-- All fields of a message of this kind: version, kind and sender come first.
abbrev pub fields_of : ℕ → List Field
fields_of kind = Number w8 1 1 BadVersion ∷ Number w8 1 most_kind BadKind ∷ any w32 ∷ own_fields kind

-- the kind of a message that says this
abbrev pub kind_of : Body → ℕ
kind_of Join = 1
kind_of (ForwardJoin node ttl) = 2
kind_of Joined = 3
kind_of (Neighbor high) = 4
kind_of (NeighborReply accepted) = 5
kind_of Disconnect = 6
kind_of (Shuffle origin ttl ids) = 7
kind_of (ShuffleReply ids) = 8
kind_of (Gossip id round payload) = 9
kind_of (IHave id) = 10
kind_of (Graft id) = 11
kind_of Prune = 12

-- a kind with a list or a payload: SHUFFLE, SHUFFLEREPLY, GOSSIP
abbrev pub HasList : ℕ → Type 0
HasList kind = (7 ≤ kind) × (kind ≤ 9)

-- the number of a flag: 0 for no, 1 for yes
abbrev pub flag : Bool → ℕ
flag b = if b then 1 else 0

-- the values of the fields after the sender
abbrev pub own_values : Body → List Value
own_values Join = []
own_values (ForwardJoin node ttl) = One node ∷ One ttl ∷ []
own_values Joined = []
own_values (Neighbor high) = One (flag high) ∷ []
own_values (NeighborReply accepted) = One (flag accepted) ∷ []
own_values Disconnect = []
own_values (Shuffle origin ttl ids) = One origin ∷ One ttl ∷ Many ids ∷ []
own_values (ShuffleReply ids) = Many ids ∷ []
own_values (Gossip id round payload) = One id.origin ∷ One id.seq ∷ One round ∷ Many payload ∷ []
own_values (IHave id) = One id.origin ∷ One id.seq ∷ []
own_values (Graft id) = One id.origin ∷ One id.seq ∷ []
own_values Prune = []

-- The bytes spell the message: version 1, its kind, its sender and what it says, in the fields of its kind.
abbrev pub Spelling : Message → List ℕ → Type 0
Spelling m bytes =
    Spells (fields_of (kind_of m.body)) (One 1 ∷ One (kind_of m.body) ∷ One m.from ∷ own_values m.body) bytes

-- the time to live, the number of ids and the length of the payload are within their limits
abbrev pub IsBodyInRange : Body → Type 0
IsBodyInRange (ForwardJoin node ttl) = ttl ≤ most_ttl
IsBodyInRange (Shuffle origin ttl ids) = (ttl ≤ most_ttl) × (length ids ≤ most_ids)
IsBodyInRange (ShuffleReply ids) = length ids ≤ most_ids
IsBodyInRange (Gossip id round payload) = length payload ≤ most_payload
IsBodyInRange Join = Unit {0}
IsBodyInRange Joined = Unit {0}
IsBodyInRange (Neighbor high) = Unit {0}
IsBodyInRange (NeighborReply accepted) = Unit {0}
IsBodyInRange Disconnect = Unit {0}
IsBodyInRange (IHave id) = Unit {0}
IsBodyInRange (Graft id) = Unit {0}
IsBodyInRange Prune = Unit {0}

-- each field of the message is within its range; the types of the fields that are not named above keep them in range
abbrev pub AreInRange : Message → Type 0
AreInRange m = IsBodyInRange m.body

-- each message that is sent is within its ranges; the id beside a message is its receiver
abbrev pub AreSendsInRange : List (ℕ × Message) → Type 0
AreSendsInRange sends = AllByRecursion (λ send. AreInRange send.1) sends

-- the message in which a node says this
abbrev pub say : ℕ → Body → Message
say me body = record { from = me; body = body }
