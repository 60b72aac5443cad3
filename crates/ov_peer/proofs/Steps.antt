-- A tree that is told changes, and the messages that are nothing to it.
use Rattle.std.proofs.Common.{◌≡◌, ℕ, Bool, true, false, not, ◌||◌, ◌&&◌, List, [], ◌∷◌, None, refl, sym, ap, ◌∙◌, ◌≤◌}
use Rattle.std.proofs.Common.{eqb, arith}
use Rattle.std.specs.Prelude.{MatchBool}
use Rattle.ov_ids.specs.Sets.{has, adding, without}
use Rattle.ov_wire.specs.Messages.{kind_of}
use Rattle.ov_wire.specs.declared.message.Body.{Body}
use Rattle.ov_wire.specs.declared.message.Body.TheVariants.{Join, ForwardJoin, Joined, Neighbor}
use Rattle.ov_wire.specs.declared.message.Body.TheVariants.{NeighborReply, Disconnect, Shuffle, ShuffleReply}
use Rattle.ov_wire.specs.declared.message.Body.TheVariants.{Gossip, IHave, Graft, Prune}
use Rattle.ov_views.specs.ViewsState.{ViewsState}
use Rattle.ov_views.specs.NeighborRows.{AttemptState}
use Rattle.ov_views.specs.Allowed.{HyParViewState}
use Rattle.ov_views.specs.Changes.{after_changes}
use Rattle.ov_views.specs.declared.change.ViewChange.{ViewChange}
use Rattle.ov_views.specs.declared.change.ViewChange.TheVariants.{Up, Down}
use Rattle.ov_views.proofs.Tracking.{Tracks}
use Rattle.ov_plum.specs.PlumState.{PlumState, is_linked}
use Rattle.ov_plum.specs.PlumRows.{AllowedFrom, AllowedTree, IsQuiet, receives}
use Rattle.ov_peer.specs.PeerState.{PeerState, IsPeer}
use Rattle.ov_peer.specs.Step.{Told}
use Rattle.ov_ids.proofs.Sets.{has_adding, has_without}
use Rattle.ov_peer.proofs.Linking.{linked_up, linked_down}

-- a node of these parts
abbrev pub peer_of : ViewsState → AttemptState → List ℕ → PlumState → PeerState
peer_of views attempt sent tree =
    record { hyparview = record { views = views; attempt = attempt; sent = sent }; tree = tree }

pub told_me : (t : PlumState) (changes : List ViewChange) (u : PlumState) → Told t changes u → u.me ≡ t.me
told_me t [] u h = ap (λ (s : PlumState). s.me) h
told_me t (Up x ∷ changes) u h = told_me h.0 changes u h.2 ∙ ap (λ (s : PlumState). s.me) h.1.0
told_me t (Down x ∷ changes) u h = told_me h.0 changes u h.2 ∙ ap (λ (s : PlumState). s.me) h.1.0

told_linked : (t : PlumState) (changes : List ViewChange) (u : PlumState) (active : List ℕ)
    → ((x : ℕ) → is_linked t.branches x ≡ has active x) → Told t changes u
    → (x : ℕ) → is_linked u.branches x ≡ has (after_changes changes active) x
told_linked t [] u active before h x = ap (λ (s : PlumState). is_linked s.branches x) h ∙ before x
told_linked t (Up y ∷ changes) u active before h x =
    told_linked h.0 changes u (adding y active)
    (λ z. ap (λ (s : PlumState). is_linked s.branches z) h.1.0 ∙ linked_up t.branches y z
    ∙ ap (λ b. eqb y z || b) (before z) ∙ sym (has_adding y active z)) h.2 x
told_linked t (Down y ∷ changes) u active before h x =
    told_linked h.0 changes u (without y active)
    (λ z. ap (λ (s : PlumState). is_linked s.branches z) h.1.0 ∙ linked_down t.branches y z
    ∙ ap (λ b. b && not (eqb y z)) (before z) ∙ sym (has_without y active z)) h.2 x

-- the neighbours of a node whose views changed and whose tree heard so are its active members
pub peer_told : (n m : HyParViewState) (t u : PlumState) (changes : List ViewChange)
    → IsPeer (record { hyparview = n; tree = t }) → Tracks n.views changes m.views → Told t changes u
    → IsPeer (record { hyparview = m; tree = u })
peer_told n m t u changes w tracks told = record {
  me = told_me t changes u told ∙ w.me ∙ sym tracks.me;
  neighbours = λ x. told_linked t changes u n.views.active w.neighbours told x ∙ ap (λ a. has a x) (sym tracks.active);
}

-- HyParView's messages are nothing to the tree
other_rests : (t : PlumState) (from : ℕ) (body : Body) → kind_of body ≤ 8 → AllowedFrom t from body t [] None
other_rests t from Join low = (refl, (refl, refl))
other_rests t from (ForwardJoin node ttl) low = (refl, (refl, refl))
other_rests t from Joined low = (refl, (refl, refl))
other_rests t from (Neighbor high) low = (refl, (refl, refl))
other_rests t from (NeighborReply accepted) low = (refl, (refl, refl))
other_rests t from Disconnect low = (refl, (refl, refl))
other_rests t from (Shuffle origin ttl ids) low = (refl, (refl, refl))
other_rests t from (ShuffleReply ids) low = (refl, (refl, refl))
other_rests t from (Gossip id round payload) low = absurd (omega (arith, low))
other_rests t from (IHave id) low = absurd (omega (arith, low))
other_rests t from (Graft id) low = absurd (omega (arith, low))
other_rests t from Prune low = absurd (omega (arith, low))

pub tree_rests : (t : PlumState) (from : ℕ) (body : Body) → kind_of body ≤ 8
    → AllowedTree t (receives (record { from = from; body = body })) t [] None
tree_rests t from body low = by (eqb from t.me)
  where
    by : (b : Bool) → MatchBool b ((t ≡ t) × IsQuiet [] None) (AllowedFrom t from body t [] None)
    by true = (refl, (refl, refl))
    by false = other_rests t from body low
