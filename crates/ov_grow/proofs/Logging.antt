-- The next broadcast of a node, and the round with which it holds a message, by whether it lives.
use Rattle.std.proofs.Common.{◌≡◌, ◌∙◌, ℕ, Option, Some, None, refl, sym, ap}
use Rattle.std.specs.Prelude.{option_map}
use Rattle.std.specs.FinMap as map
use Rattle.ov_ids.specs.declared.id.MsgId.{MsgId}
use Rattle.ov_peer.specs.PeerState.{PeerState}
use Rattle.ov_net.specs.declared.member.Member.{Member}
use Rattle.ov_net.specs.declared.member.Member.TheVariants.{Live, Gone}
use Rattle.ov_grow.specs.BroadcastLog.{next_id}
use Rattle.ov_grow.specs.MessageCosts.{round_of}

-- the next broadcast of a node that lives, and of one that does not
pub next_of : (node made : ℕ) (o : Option Member) (p : PeerState) → o ≡ Some (Live p) → made ≡ p.tree.made
    → Some (record { origin = node; seq = made }) ≡ next_id node o
next_of node made o p is same =
    (λ i. Some (record { origin = node; seq = same i })) ∙ sym (ap (λ (x : Option Member). next_id node x) is)

pub no_next : (node : ℕ) (o : Option Member) → ((p : PeerState) → ¬ (o ≡ Some (Live p))) → None ≡ next_id node o
no_next node None none = refl
no_next node (Some (Live p)) none = absurd (none p refl)
no_next node (Some Gone) none = refl

-- the round with which a node holds a message that lives, and one that does not
pub round_held : (id : MsgId) (round : Option ℕ) (o : Option Member) (p : PeerState) → o ≡ Some (Live p)
    → round ≡ option_map (λ h. h.round) (map.get p.tree.held id) → round ≡ round_of o id
round_held id round o p is same = same ∙ sym (ap (λ (x : Option Member). round_of x id) is)

pub no_round : (id : MsgId) (o : Option Member) → ((p : PeerState) → ¬ (o ≡ Some (Live p))) → None ≡ round_of o id
no_round id None none = refl
no_round id (Some (Live p)) none = absurd (none p refl)
no_round id (Some Gone) none = refl
