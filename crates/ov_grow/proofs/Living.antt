-- Which nodes live, and which crashed.
use Rattle.std.proofs.Common.{◌≡◌, ◌≢◌, ℕ, Bool, true, false, IsTrue, ◌↔◌, List, Option, Some}
use Rattle.std.proofs.Common.{None, refl, sym, subst, ◌∙◌}
use Rattle.std.specs.Prelude.{not, IfSome}
use Rattle.std.specs.FinMap as map
use Rattle.std.specs.FinSet as set
use Rattle.ov_ids.specs.declared.id.MsgId.{MsgId}
use Rattle.ov_grow.specs.Broadcasts.{TimerRuns}
use Rattle.ov_peer.specs.PeerState.{PeerState}
use Rattle.ov_net.specs.Net.{AreLiveNodes, Net, LivesAs, IsGone}
use Rattle.ov_net.specs.Refusals.{IsBorn}
use Rattle.ov_net.specs.World.{WorldState}
use Rattle.ov_net.specs.declared.member.Member.{Member}
use Rattle.ov_net.specs.declared.member.Member.TheVariants.{Live, Gone}
use Rattle.ov_grow.specs.Growth.{Growth, AreLive, IsLive}

-- a node has one state
pub one_state : (p q : PeerState) → Some (Live p) ≡ Some (Live q) → p ≡ q
one_state p q same = cc

-- the live nodes of the world are those of the overlay
pub live_nodes : (s : Growth) (w : WorldState) (ids : List ℕ) → w ≡ s.world → AreLiveNodes w.net ids → AreLive s ids
live_nodes s w ids same nodes =
    let here = subst (λ (world : WorldState). AreLiveNodes world.net ids) same nodes in
    record { ascend = here.ascend; live = λ a has. (here.each a).0 has; each = λ a lives. (here.each a).1 lives }

-- a node that was born and does not live has crashed
crashed_or_not : (w : Net) (a : ℕ) (m : Option Member) (live : Bool) → map.get w.nodes a ≡ m → m ≢ None
    → (IsTrue live ↔ ((p : PeerState) × LivesAs w a p))
    → IsTrue (not live) ↔ IsGone w a
crashed_or_not w a None live is born tested = absurd (born refl)
crashed_or_not w a (Some (Live p)) true is born tested =
    ((λ fails. absurd (cc fails)), λ gone. absurd (let e = sym is ∙ gone in cc))
crashed_or_not w a (Some (Live p)) false is born tested = absurd (let holds = tested.1 (p, is) in cc)
crashed_or_not w a (Some Gone) true is born tested =
    let lives = tested.0 refl in absurd (let e = sym is ∙ lives.1 in cc)
crashed_or_not w a (Some Gone) false is born tested = ((λ holds. is), λ gone. refl)

pub has_crashed : (w : Net) (a : ℕ) (born live : Bool) → born ≡ true → (IsTrue born ↔ IsBorn w a)
    → (IsTrue live ↔ ((p : PeerState) × LivesAs w a p)) → IsTrue (not live) ↔ IsGone w a
has_crashed w a born live holds is tested = crashed_or_not w a (map.get w.nodes a) live refl (is.0 holds) tested

-- whether a timer runs at a node whose state is p
pub timer_tested : (s : Growth) (node : ℕ) (id : MsgId) (p : PeerState) (runs : Bool) → LivesAs s.world.net node p
    → runs ≡ set.contains p.tree.running id → IsTrue runs ↔ TimerRuns s node id
timer_tested s node id p runs lives is = (
  λ holds. (p, lives, subst (λ b. IsTrue b) is holds),
  λ (q, live, running). subst (λ b. IsTrue b) (sym is)
      (subst (λ x. IsTrue (set.contains x.tree.running id)) (one_state q p (sym live ∙ lives)) running),
)

-- a sender that does not live
pub not_live : (s : Growth) (sender from : ℕ) (live : Bool) → live ≡ false → (IsTrue live ↔ IsLive s sender)
    → sender ≡ from → IsLive s from → ⊥
not_live s sender from live off tested is lives =
    let on = tested.1 (subst (λ a. IsLive s a) (sym is) lives) in cc

-- what follows of what there is, if there is something
pub some_weaker : {X : Type 0} (o : Option X) (P Q : X → Type 0) → ((x : X) → P x → Q x) → IfSome o P → IfSome o Q
some_weaker None P Q put has = has
some_weaker (Some x) P Q put has = put x has
