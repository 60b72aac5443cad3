-- Broadcasts and timers.
use Rattle.std.proofs.Common.{◌≡◌, ◌<◌, ◌≤◌, ◌+◌, ◌⊎◌, ℕ, zero, suc, Bool, true, false, ◌||◌, List, [], ◌∷◌, ◌++◌}
use Rattle.std.proofs.Common.{Option, Some, None, length, drop, get_or, refl, sym, subst, ap, arith, ◌∙◌, inl, inr}
use Rattle.std.proofs.Math.Seq.{drop-cons}
use Rattle.ov_ids.specs.declared.id.MsgId.{MsgId}
use Rattle.ov_net.specs.Net.{LivesAs}
use Rattle.ov_peer.specs.PeerState.{PeerState}
use Rattle.ov_script.specs.declared.recordable_event.Act.TheVariants as act
use Rattle.ov_grow.specs.Growth.{Growth, Does}
use Rattle.ov_grow.specs.Turns.{RunOut}
use Rattle.ov_grow.specs.Broadcasts.{AtOnce, BroadcastBy, BroadcastsBegin, Fire, FireAt, FireAtEach, FiresIfItRuns}
use Rattle.ov_grow.specs.Broadcasts.{IsSender, OneByOne, StandsInFor, TimersFire}
use Rattle.ov_grow.specs.declared.phase_rules.PhaseRules.{PhaseRules}
use Rattle.ov_ids.specs.Members.{Ascends, Has}
use Rattle.ov_grow.specs.Code.Standing.{HaveNone}
use Rattle.ov_grow.proofs.Healing.{first_found, is_item}
use Rattle.ov_grow.proofs.Rounding.{drop_past}
use Rattle.ov_grow.proofs.Turning.{Longer, AsLong, as_long_by, longer_by, does_longer}

-- who makes the next broadcast is found without an event
pub sender_same : (sender : Option ℕ) (nodes : List ℕ) (node : ℕ) (s u : Growth) → IsSender sender nodes s node u
    → u.world ≡ s.world
sender_same None nodes node s u (place, chooses, at) = ap (λ g. g.world) chooses.1
sender_same (Some n) nodes node s u (stands, same) = ap (λ g. g.world) same

le_or_lt : (a b : ℕ) → (a ≤ b) ⊎ (b < a)
le_or_lt zero b = inl (omega arith)
le_or_lt (suc a) zero = inr (omega arith)
le_or_lt (suc a) (suc b) = elim (le_or_lt a b) [
  | inl least ↦ inl (omega (arith, least))
  | inr less ↦ inr (omega (arith, less))
]

below : (n a : ℕ) → ¬ (n ≤ a) → a < n
below n a not = elim (le_or_lt n a) [
  | inl least ↦ absurd (not least)
  | inr less ↦ less
]

-- if all of these nodes have smaller ids, the first of them stands in
pub stands_last : (n : ℕ) (ids : List ℕ) (x : ℕ) → HaveNone (λ a. n ≤ a) ids → 0 < length ids → Ascends ids
    → x ≡ get_or ids 0 x → StandsInFor n ids x
stands_last n ids x none some ascend is = inr (
  (λ a has. below n a (none a has)),
  first_found (λ a. 0 ≤ a) ids 0 x some (is_item ids 0 x some is) ascend (λ a has. absurd has) (omega arith),
)

-- the next broadcast
pub begins_more : (sender : Option ℕ) (nodes : List ℕ) (n m node : ℕ) (id : MsgId) (later : List MsgId)
    (s t v u : Growth) → n ≡ suc m → IsSender sender nodes s node t → BroadcastBy node t id v
    → BroadcastsBegin sender nodes m v later u → BroadcastsBegin sender nodes n s (id ∷ later) u
begins_more sender nodes n m node id later s t v u one whose by more =
    subst (λ k. BroadcastsBegin sender nodes k s (id ∷ later) u) (sym one)
    (node, id, later, t, v, whose, by, refl, more)

pub begins_end : (sender : Option ℕ) (nodes : List ℕ) (n : ℕ) (s : Growth) → n ≡ 0
    → BroadcastsBegin sender nodes n s [] s
begins_end sender nodes n s none = subst (λ k. BroadcastsBegin sender nodes k s [] s) (sym none) (refl, refl)

-- the next of broadcasts that are made one by one
pub one_more : (rules : PhaseRules) (n m : ℕ) (first later : List MsgId) (s t u : Growth) → n ≡ suc m
    → AtOnce rules 1 s first t → OneByOne rules m t later u → OneByOne rules n s (first ++ later) u
one_more rules n m first later s t u one begins more =
    subst (λ k. OneByOne rules k s (first ++ later) u) (sym one) (first, later, t, begins, refl, more)

pub no_more : (rules : PhaseRules) (n : ℕ) (s : Growth) → n ≡ 0 → OneByOne rules n s [] s
no_more rules n s none = subst (λ k. OneByOne rules k s [] s) (sym none) (refl, refl)

-- a node that broadcasts lives, and the message has its next number
pub broadcast_by : (node made : ℕ) (s u : Growth) → ((p : PeerState) → LivesAs s.world.net node p → made ≡ p.tree.made)
    → Does s (act.Broadcast node) u → BroadcastBy node s (record { origin = node; seq = made }) u
broadcast_by node made s u number did =
    let takes = did.step.step.2 in
    (takes.0, takes.1, ap (λ n. record { origin = node; seq = n }) (number takes.0 takes.1), did)

-- timers of the next message
pub fire_at_more : (node : ℕ) (ids : List MsgId) (i : ℕ) (id : MsgId) (first others : Bool) (s t u : Growth)
    → i < length ids → id ≡ get_or ids i id → FiresIfItRuns node id s first t → FireAt node (drop (i + 1) ids) t
    others u
    → FireAt node (drop i ids) s (first || others) u
fire_at_more node ids i id first others s t u within is fires more =
    let after : i + 1 ≡ suc i = omega arith in
    subst (λ xs. FireAt node xs s (first || others) u) (sym (drop-cons ids i id within ∙ ap (λ x. x ∷ drop (suc i)
    ids) (sym is)))
    (first, others, t, fires, subst (λ k. FireAt node (drop k ids) t others u) after more, refl)

-- the next message is the first of what is left
pub fire_at_next : (node : ℕ) (ids : List MsgId) (i : ℕ) (id : MsgId) (others : Bool) (s u : Growth) → i < length ids
    → id ≡ get_or ids i id → FireAt node (drop i ids) s others u → FireAt node (id ∷ drop (i + 1) ids) s others u
fire_at_next node ids i id others s u within is fires =
    let after : suc i ≡ i + 1 = omega arith in
    subst (λ k. FireAt node (id ∷ drop k ids) s others u) after (subst (λ xs. FireAt node xs s others u)
    (drop-cons ids i id within ∙ ap (λ x. x ∷ drop (suc i) ids) (sym is)) fires)

-- timers at the next node
pub fire_each_more : (nodes : List ℕ) (ids : List MsgId) (i node : ℕ) (first others : Bool) (s t u : Growth)
    → i < length nodes → node ≡ get_or nodes i node → FireAt node ids s first t
    → FireAtEach (drop (i + 1) nodes) ids t others u
    → FireAtEach (drop i nodes) ids s (first || others) u
fire_each_more nodes ids i node first others s t u within is fires more =
    let after : i + 1 ≡ suc i = omega arith in
    subst (λ xs. FireAtEach xs ids s (first || others) u) (sym (drop-cons nodes i node within ∙ ap (λ x. x ∷ drop
    (suc i) nodes) (sym is)))
    (first, others, t, fires, subst (λ k. FireAtEach (drop k nodes) ids t others u) after more, refl)

-- the next node is the first of what is left
pub fire_each_next : (nodes : List ℕ) (ids : List MsgId) (i node : ℕ) (others : Bool) (s u : Growth)
    → i < length nodes → node ≡ get_or nodes i node → FireAtEach (drop i nodes) ids s others u
    → FireAtEach (node ∷ drop (i + 1) nodes) ids s others u
fire_each_next nodes ids i node others s u within is fires =
    let after : suc i ≡ i + 1 = omega arith in
    subst (λ k. FireAtEach (node ∷ drop k nodes) ids s others u) after (subst (λ xs. FireAtEach xs ids s others u)
    (drop-cons nodes i node within ∙ ap (λ x. x ∷ drop (suc i) nodes) (sym is)) fires)

-- timers fired, and packets ran out
pub timers_more : (rules : PhaseRules) (ids : List MsgId) (s t v u : Growth) → Fire ids s true t → RunOut rules t v
    → TimersFire rules ids v u → TimersFire rules ids s u
timers_more rules ids s t v u fires out (n, times) = (suc n, (t, v, fires, out, times))

-- the journal is longer if a timer fired
abbrev pub LongerIf : Bool → Growth → Growth → Type 0
LongerIf true s u = Longer s u
LongerIf false s u = AsLong s u

pub as_long_if : (fired : Bool) (s u : Growth) → LongerIf fired s u → AsLong s u
as_long_if true s u longer = inr longer
as_long_if false s u as_long = as_long

or_longer : (first others : Bool) (s t u : Growth) → LongerIf first s t → LongerIf others t u
    → LongerIf (first || others) s u
or_longer true others s t u one two = longer_by s t u one (as_long_if others t u two)
or_longer false true s t u (inl same) two = subst (λ x. Longer x u) same two
or_longer false true s t u (inr one) two = longer_by s t u one (inr two)
or_longer false false s t u one two = as_long_by s t u one two

fires_longer : (node : ℕ) (id : MsgId) (s u : Growth) (fired : Bool) → FiresIfItRuns node id s fired u
    → LongerIf fired s u
fires_longer node id s u fired (inl (runs, did, holds)) =
    subst (λ b. LongerIf b s u) (sym holds) (does_longer s u (act.Timer node id) did)
fires_longer node id s u fired (inr (not_runs, same, fails)) = subst (λ b. LongerIf b s u) (sym fails) (inl same)

fire_at_longer : (node : ℕ) (ids : List MsgId) (s u : Growth) (fired : Bool) → FireAt node ids s fired u
    → LongerIf fired s u
fire_at_longer node [] s u fired (same, fails) = subst (λ b. LongerIf b s u) (sym fails) (inl same)
fire_at_longer node (id ∷ ids) s u fired (first, others, t, fires, more, is) =
    subst (λ b. LongerIf b s u) (sym is)
    (or_longer first others s t u (fires_longer node id s t first fires) (fire_at_longer node ids t u others more))

fire_each_longer : (nodes : List ℕ) (ids : List MsgId) (s u : Growth) (fired : Bool) → FireAtEach nodes ids s fired u
    → LongerIf fired s u
fire_each_longer [] ids s u fired (same, fails) = subst (λ b. LongerIf b s u) (sym fails) (inl same)
fire_each_longer (node ∷ nodes) ids s u fired (first, others, t, fires, more, is) =
    subst (λ b. LongerIf b s u) (sym is)
    (or_longer first others s t u (fire_at_longer node ids s t first fires) (fire_each_longer nodes ids t u others
    more))

pub fire_longer_if : (ids : List MsgId) (s u : Growth) (fired : Bool) → Fire ids s fired u → LongerIf fired s u
fire_longer_if ids s u fired (live, are, each) = fire_each_longer live ids s u fired each

pub fire_longer : (ids : List MsgId) (s u : Growth) (fired : Bool) → fired ≡ true → Fire ids s fired u → Longer s u
fire_longer ids s u fired holds (live, are, each) =
    subst (λ b. LongerIf b s u) holds (fire_each_longer live ids s u fired each)

-- no message is left
pub fire_at_end : (node : ℕ) (ids : List MsgId) (i : ℕ) (s : Growth) → length ids ≤ i
    → FireAt node (drop i ids) s false s
fire_at_end node ids i s past = subst (λ xs. FireAt node xs s false s) (sym (drop_past ids i past)) (refl, refl)

-- no node is left
pub fire_each_end : (nodes : List ℕ) (ids : List MsgId) (i : ℕ) (s : Growth) → length nodes ≤ i
    → FireAtEach (drop i nodes) ids s false s
fire_each_end nodes ids i s past = subst (λ xs. FireAtEach xs ids s false s) (sym (drop_past nodes i past)) (refl, refl)

pub or_assoc : (a b c : Bool) → (a || (b || c)) ≡ ((a || b) || c)
or_assoc true b c = refl
or_assoc false b c = refl

pub or_none : (a : Bool) → (a || false) ≡ a
or_none true = refl
or_none false = refl

-- who has a member has some
pub has_some : (xs : List ℕ) (a : ℕ) → Has xs a → 0 < length xs
has_some [] a has = absurd has
has_some (x ∷ xs) a has = omega arith
