-- The rows of Plumtree at a node: t is what it keeps before and u after. GOSSIP, IHAVE, GRAFT and PRUNE with their
-- purposes are Plumtree's (Leitão, Pereira, Rodrigues, SRDS 2007). Chosen here: that IHAVE and GRAFT carry no round,
-- and that a node which is no neighbour is answered too, if it sends GOSSIP again or asks by GRAFT.
use Rattle.std.specs.Prelude.{◌≡◌, ℕ, ◌+◌, ◌<◌, min, IsTrue, not, ◌||◌, ◌==◌, List, [], ◌∷◌, ◌++◌, map as each}
use Rattle.std.specs.Prelude.{MatchBool, MatchOption, Option, Some, None}
use Rattle.std.specs.FinMap as map
use Rattle.std.specs.FinSet as set
use Rattle.ov_ids.specs.declared.id.MsgId.{MsgId}
use Rattle.ov_wire.specs.Messages.{say}
use Rattle.ov_wire.specs.declared.message.Message.{Message}
use Rattle.ov_wire.specs.declared.message.Body.{Body}
use Rattle.ov_wire.specs.declared.message.Body.TheVariants.{Join, ForwardJoin, Joined, Neighbor, NeighborReply}
use Rattle.ov_wire.specs.declared.message.Body.TheVariants.{Disconnect, Shuffle, ShuffleReply, Gossip, IHave, Graft}
use Rattle.ov_wire.specs.declared.message.Body.TheVariants.{Prune}
use Rattle.ov_plum.specs.Notes.{oldest, noting, without_notes_of, without_oldest, without_notes_by}
use Rattle.ov_plum.specs.PlumState.{PlumState, HeldState, BranchesState, most_neighbours, most_broadcasts, most_rounds}
use Rattle.ov_plum.specs.PlumState.{is_linked, up, down, makes_eager, makes_lazy}

-- the message with its id, as the node sends it on
abbrev pub gossip : MsgId → HeldState → Body
gossip id held = Gossip id held.round held.payload

-- GOSSIP to the eager and then IHAVE to the lazy, each in ascending order
abbrev pub spread : ℕ → MsgId → HeldState → BranchesState → List (ℕ × Message)
spread me id held b =
    each (λ x. (x, say me (gossip id held))) b.eager ++ each (λ x. (x, say me (IHave id))) b.lazy

-- a message that is delivered: its id and its payload
abbrev pub Delivered : Type 0
Delivered = MsgId × List ℕ

-- nothing is sent or delivered
abbrev pub IsQuiet : List (ℕ × Message) → Option Delivered → Type 0
IsQuiet sends delivery = (sends ≡ []) × (delivery ≡ None)

-- A broadcast of the node's own is held with round 0, delivered and sent on. A node makes at most 4,096 (chosen here)
abbrev pub AllowedBroadcast : PlumState → List ℕ → PlumState → List (ℕ × Message) → Option Delivered → Type 0
AllowedBroadcast t payload u sends delivery =
    let id : MsgId = record { origin = t.me; seq = t.made } in
    let held : HeldState = record { round = 0; payload = payload } in
    (u ≡ record t { held = map.insert t.held id held; made = t.made + 1 })
    × (sends ≡ spread t.me id held t.branches) × (delivery ≡ Some (id, payload)) × (t.made < most_broadcasts)

-- the message as it is sent on: a round later, up to the last round
abbrev pub passed_on : ℕ → List ℕ → HeldState
passed_on round payload = record { round = min (round + 1) most_rounds; payload = payload }

-- GOSSIP from s. If the message is held, s becomes lazy and gets PRUNE. Otherwise the message is delivered, held and
-- sent on to all but s; s becomes eager; the notes of the message go, and its timer stops
abbrev pub AllowedGossip : PlumState → ℕ → MsgId → ℕ → List ℕ → PlumState → List (ℕ × Message) → Option Delivered
    → Type 0
AllowedGossip t s id round payload u sends delivery =
    let held : HeldState = passed_on round payload in
    MatchBool (map.contains_key t.held id)
    ((u ≡ record t { branches = makes_lazy s t.branches }) × (sends ≡ (s, say t.me Prune) ∷ []) × (delivery ≡ None))
    ((u ≡ record t {
      branches = makes_eager s t.branches;
      held = map.insert t.held id held;
      notes = without_notes_of id t.notes;
      running = set.remove t.running id;
    })
    × (sends ≡ spread t.me id held (down s t.branches)) × (delivery ≡ Some (id, payload)))

-- IHAVE from s. Nothing happens if the message is held or s is no neighbour. Otherwise s is noted, and the timer runs
abbrev pub AllowedIHave : PlumState → ℕ → MsgId → PlumState → List (ℕ × Message) → Option Delivered → Type 0
AllowedIHave t s id u sends delivery =
    IsQuiet sends delivery
    × MatchBool (map.contains_key t.held id || not (is_linked t.branches s)) (u ≡ t)
    (u ≡ record t { notes = noting s id t.notes; running = set.insert t.running id })

-- The timer of an id fires. Only a timer that runs can do so. If there is a note of the id, the oldest goes, its sender
-- becomes eager and gets GRAFT, and the timer runs on. If there is none, the timer stops
abbrev pub AllowedTimer : PlumState → MsgId → PlumState → List (ℕ × Message) → Option Delivered → Type 0
AllowedTimer t id u sends delivery =
    IsTrue (set.contains t.running id) × (delivery ≡ None)
    × MatchOption (oldest id t.notes) ((u ≡ record t { running = set.remove t.running id }) × (sends ≡ []))
    (λ s. (u ≡ record t { branches = makes_eager s t.branches; notes = without_oldest id t.notes })
    × (sends ≡ (s, say t.me (Graft id)) ∷ []))

-- GRAFT from s: it becomes eager, and gets the message if that is held
abbrev pub AllowedGraft : PlumState → ℕ → MsgId → PlumState → List (ℕ × Message) → Option Delivered → Type 0
AllowedGraft t s id u sends delivery =
    (u ≡ record t { branches = makes_eager s t.branches }) × (delivery ≡ None)
    × MatchOption (map.get t.held id) (sends ≡ []) (λ held. sends ≡ (s, say t.me (gossip id held)) ∷ [])

-- PRUNE from s: it becomes lazy
abbrev pub AllowedPrune : PlumState → ℕ → PlumState → List (ℕ × Message) → Option Delivered → Type 0
AllowedPrune t s u sends delivery = (u ≡ record t { branches = makes_lazy s t.branches }) × IsQuiet sends delivery

-- x becomes a neighbour: it is eager
abbrev pub AllowedUp : PlumState → ℕ → PlumState → Type 0
AllowedUp t x u = u ≡ record t { branches = up x t.branches }

-- x is no longer a neighbour, and the notes by x go. Timers run on
abbrev pub AllowedDown : PlumState → ℕ → PlumState → Type 0
AllowedDown t x u = u ≡ record t { branches = down x t.branches; notes = without_notes_by x t.notes }

-- a message from s, another node
abbrev pub AllowedFrom : PlumState → ℕ → Body → PlumState → List (ℕ × Message) → Option Delivered → Type 0
AllowedFrom t s (Gossip id round payload) u sends delivery = AllowedGossip t s id round payload u sends delivery
AllowedFrom t s (IHave id) u sends delivery = AllowedIHave t s id u sends delivery
AllowedFrom t s (Graft id) u sends delivery = AllowedGraft t s id u sends delivery
AllowedFrom t s Prune u sends delivery = AllowedPrune t s u sends delivery
AllowedFrom t s Join u sends delivery = (u ≡ t) × IsQuiet sends delivery
AllowedFrom t s (ForwardJoin node ttl) u sends delivery = (u ≡ t) × IsQuiet sends delivery
AllowedFrom t s Joined u sends delivery = (u ≡ t) × IsQuiet sends delivery
AllowedFrom t s (Neighbor high) u sends delivery = (u ≡ t) × IsQuiet sends delivery
AllowedFrom t s (NeighborReply accepted) u sends delivery = (u ≡ t) × IsQuiet sends delivery
AllowedFrom t s Disconnect u sends delivery = (u ≡ t) × IsQuiet sends delivery
AllowedFrom t s (Shuffle origin ttl ids) u sends delivery = (u ≡ t) × IsQuiet sends delivery
AllowedFrom t s (ShuffleReply ids) u sends delivery = (u ≡ t) × IsQuiet sends delivery

-- an input of a node's part of Plumtree: a broadcast of its own, a message, a timer that fires, a node that becomes a
-- neighbour, a neighbour that is no longer one
pub data PlumInput : Type 0 where
  broadcasts : List ℕ → PlumInput
  receives : Message → PlumInput
  fires : MsgId → PlumInput
  goes_up : ℕ → PlumInput
  goes_down : ℕ → PlumInput

-- The step from t to u that is allowed at an input, with what is sent to whom, in order, and what is delivered. A
-- message whose sender is the node itself does nothing
abbrev pub AllowedTree : PlumState → PlumInput → PlumState → List (ℕ × Message) → Option Delivered → Type 0
AllowedTree t (broadcasts payload) u sends delivery = AllowedBroadcast t payload u sends delivery
AllowedTree t (receives m) u sends delivery =
    MatchBool (m.from == t.me) ((u ≡ t) × IsQuiet sends delivery) (AllowedFrom t m.from m.body u sends delivery)
AllowedTree t (fires id) u sends delivery = AllowedTimer t id u sends delivery
AllowedTree t (goes_up x) u sends delivery = AllowedUp t x u × IsQuiet sends delivery
AllowedTree t (goes_down x) u sends delivery = AllowedDown t x u × IsQuiet sends delivery

-- some input leads from t to u, with what is then sent and delivered
pub record HasPlumStep (t u : PlumState) : Type 0 where
  pub input : PlumInput
  pub sends : List (ℕ × Message)
  pub delivery : Option Delivered
  pub allowed : AllowedTree t input u sends delivery

-- how many messages a step may send at most, at a message that says this
abbrev pub most_sends_at_message : Body → ℕ
most_sends_at_message (Gossip id round payload) = most_neighbours
most_sends_at_message (Graft id) = 1
most_sends_at_message _ = 0

-- how many messages a step may send at most, whatever comes
abbrev pub most_sends_at : PlumInput → ℕ
most_sends_at (broadcasts payload) = most_neighbours
most_sends_at (receives m) = most_sends_at_message m.body
most_sends_at (fires id) = 1
most_sends_at (goes_up x) = 0
most_sends_at (goes_down x) = 0
