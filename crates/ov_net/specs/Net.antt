-- A world of nodes: those that were born, and the packets on their way. The nodes are those of HyParView (Leitão,
-- Pereira, Rodrigues, DSN 2007) and Plumtree (the same authors, SRDS 2007). The network between them is defined here.
use Rattle.std.specs.Prelude.{◌≡◌, ◌↔◌, ℕ, List, Some}
use Rattle.std.specs.Ordering.{nat_cmp}
use Rattle.std.specs.FinMap as map
use Rattle.ov_ids.specs.ParamsState.{ParamsState}
use Rattle.ov_ids.specs.Members.{Has, Ascends}
use Rattle.ov_wire.specs.declared.message.Message.{Message}
use Rattle.ov_peer.specs.PeerState.{PeerState}
use Rattle.ov_net.specs.declared.member.Member.{Member}
use Rattle.ov_net.specs.declared.member.Member.TheVariants.{Live, Gone}

-- the parameters of all nodes; by its id each node that was born, live with its state, or gone; and the packets, each a
-- receiver and a message, the oldest first
pub record Net : Type 0 where
  pub params : ParamsState
  pub nodes : map.FinMap nat_cmp Member
  pub packets : List (ℕ × Message)

-- node a is alive, and its state is p
abbrev pub LivesAs : Net → ℕ → PeerState → Type 0
LivesAs w a p = map.get w.nodes a ≡ Some (Live p)

-- node a was born and crashed
abbrev pub IsGone : Net → ℕ → Type 0
IsGone w a = map.get w.nodes a ≡ Some Gone

-- ids are those of the live nodes, ascending
pub record AreLiveNodes (w : Net) (ids : List ℕ) : Type 0 where
  pub ascend : Ascends ids
  pub each : (a : ℕ) → Has ids a ↔ ((p : PeerState) × LivesAs w a p)

-- each live node is stored under its own id
abbrev pub HaveOwnIds : Net → Type 0
HaveOwnIds w = (a : ℕ) (p : PeerState) → LivesAs w a p → (p.hyparview.views.me ≡ a) × (p.tree.me ≡ a)
