-- Broadcasts, and the timers of their messages. s is before, and u after. Chosen here.
use Rattle.std.specs.Prelude.{◌≡◌, ◌⊎◌, ◌<◌, ◌≤◌, ℕ, zero, suc, Bool, true, false, ◌||◌, IsTrue, MatchBool}
use Rattle.std.specs.Prelude.{List, [], ◌∷◌, ◌++◌, length, slice_get, Option, Some, None}
use Rattle.std.specs.FinSet as set
use Rattle.ov_ids.specs.Members.{Has}
use Rattle.ov_ids.specs.declared.id.MsgId.{MsgId}
use Rattle.ov_peer.specs.PeerState.{PeerState}
use Rattle.ov_net.specs.Net.{LivesAs}
use Rattle.ov_script.specs.declared.recordable_event.Act.TheVariants as act
use Rattle.ov_grow.specs.Growth.{Growth, Does, Chooses, AreLive, IsFirstOf}
use Rattle.ov_grow.specs.Turns.{RunOut}
use Rattle.ov_grow.specs.declared.phase_rules.PhaseRules.{PhaseRules}

-- a node broadcasts, and the message has this id: its number is how many broadcasts the node has made before
abbrev pub BroadcastBy : ℕ → Growth → MsgId → Growth → Type 0
BroadcastBy node s id u =
    (p : PeerState) × LivesAs s.world.net node p
    × (id ≡ record { origin = node; seq = p.tree.made })
    × Does s (act.Broadcast node) u

-- who of these live nodes broadcasts if node n is to: n itself, or else the one with the next larger id, or, if there
-- is none, the one with the smallest id
abbrev pub StandsInFor : ℕ → List ℕ → ℕ → Type 0
StandsInFor n live node =
    IsFirstOf (λ a. n ≤ a) live node
    ⊎ (((a : ℕ) → Has live a → a < n) × IsFirstOf (λ a. 0 ≤ a) live node)

-- who of these live nodes makes the next broadcast: one of them is chosen, or it is to be a given node, and nobody is
-- chosen
abbrev pub IsSender : Option ℕ → List ℕ → Growth → ℕ → Growth → Type 0
IsSender None live s node u =
    (place : ℕ) × Chooses (length live) s place u × (slice_get live place ≡ Some node)
IsSender (Some n) live s node u = StandsInFor n live node × (u ≡ s)

-- so many times one of these nodes broadcasts, and the messages have these ids
abbrev pub BroadcastsBegin : Option ℕ → List ℕ → ℕ → Growth → List MsgId → Growth → Type 0
BroadcastsBegin sender nodes zero s ids u = (ids ≡ []) × (u ≡ s)
BroadcastsBegin sender nodes (suc n) s ids u =
    (node : ℕ) × (id : MsgId) × (later : List MsgId) × (t : Growth) × (v : Growth)
    × IsSender sender nodes s node t
    × BroadcastBy node t id v
    × (ids ≡ id ∷ later)
    × BroadcastsBegin sender nodes n v later u

-- the timer of a message runs at a node
abbrev pub TimerRuns : Growth → ℕ → MsgId → Type 0
TimerRuns s node id = (p : PeerState) × LivesAs s.world.net node p × IsTrue (set.contains p.tree.running id)

-- the timer of a message fires at a node if it runs, and whether it did
abbrev pub FiresIfItRuns : ℕ → MsgId → Growth → Bool → Growth → Type 0
FiresIfItRuns node id s fired u =
    (TimerRuns s node id × Does s (act.Timer node id) u × (fired ≡ true))
    ⊎ ((¬ TimerRuns s node id) × (u ≡ s) × (fired ≡ false))

-- the same for each of these messages in order, and whether a timer fired
abbrev pub FireAt : ℕ → List MsgId → Growth → Bool → Growth → Type 0
FireAt node [] s fired u = (u ≡ s) × (fired ≡ false)
FireAt node (id ∷ ids) s fired u =
    (first : Bool) × (others : Bool) × (t : Growth)
    × FiresIfItRuns node id s first t × FireAt node ids t others u × (fired ≡ (first || others))

-- the same for each of these nodes in order, and whether a timer fired
abbrev pub FireAtEach : List ℕ → List MsgId → Growth → Bool → Growth → Type 0
FireAtEach [] ids s fired u = (u ≡ s) × (fired ≡ false)
FireAtEach (node ∷ nodes) ids s fired u =
    (first : Bool) × (others : Bool) × (t : Growth)
    × FireAt node ids s first t × FireAtEach nodes ids t others u × (fired ≡ (first || others))

-- the same for every live node, by ascending ids
abbrev pub Fire : List MsgId → Growth → Bool → Growth → Type 0
Fire ids s fired u = (live : List ℕ) × AreLive s live × FireAtEach live ids s fired u

-- timers fired so many times and packets ran out each time, and then no such timer runs
abbrev pub FireTimes : PhaseRules → List MsgId → ℕ → Growth → Growth → Type 0
FireTimes rules ids zero s u = Fire ids s false u
FireTimes rules ids (suc n) s u =
    (t : Growth) × (v : Growth) × Fire ids s true t × RunOut rules t v × FireTimes rules ids n v u

-- timers fire, again and again, until none runs
abbrev pub TimersFire : PhaseRules → List MsgId → Growth → Growth → Type 0
TimersFire rules ids s u = (n : ℕ) × FireTimes rules ids n s u

-- so many broadcasts at once, until no packet is on its way, and no timer of their messages runs
abbrev pub AtOnce : PhaseRules → ℕ → Growth → List MsgId → Growth → Type 0
AtOnce rules count s ids u =
    (live : List ℕ) × (t : Growth) × (v : Growth)
    × AreLive s live × BroadcastsBegin rules.sender live count s ids t × RunOut rules t v × TimersFire rules ids v u

-- so many broadcasts one by one: when one begins, nothing is left of the one before
abbrev pub OneByOne : PhaseRules → ℕ → Growth → List MsgId → Growth → Type 0
OneByOne rules zero s ids u = (ids ≡ []) × (u ≡ s)
OneByOne rules (suc n) s ids u =
    (first : List MsgId) × (later : List MsgId) × (t : Growth)
    × AtOnce rules 1 s first t × (ids ≡ first ++ later) × OneByOne rules n t later u

-- the broadcasts of a phase, so many, whose messages have these ids
abbrev pub Broadcasts : PhaseRules → ℕ → Growth → List MsgId → Growth → Type 0
Broadcasts rules count s ids u = MatchBool rules.sequential (OneByOne rules count s ids u) (AtOnce rules count s ids u)
