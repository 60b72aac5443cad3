-- Plans, and what comes of them.
use Rattle.std.proofs.Common.{◌≡◌, ℕ, List, [], Option, None, refl, sym, ap, subst, ◌∙◌, ◌≤◌, append-nil, arith, length}
use Rattle.ov_wire.specs.declared.message.Message.{Message}
use Rattle.ov_wire.specs.declared.message.Body.{Body}
use Rattle.ov_wire.specs.declared.message.Body.TheVariants.{Join, ForwardJoin, Joined, Neighbor, NeighborReply}
use Rattle.ov_wire.specs.declared.message.Body.TheVariants.{Disconnect, ShuffleReply, Gossip, IHave, Graft, Prune}
use Rattle.ov_wire.specs.declared.message.Body.TheVariants as body
use Rattle.ov_words.specs.Pick.{Choice}
use Rattle.ov_views.specs.Allowed.{HyParViewState, boots, hears, hears_of_crash, shuffles}
use Rattle.ov_views.specs.declared.change.ViewChange.{ViewChange}
use Rattle.ov_views.specs.declared.step_effects.Moves.{Moves}
use Rattle.ov_views.proofs.Tracking.{Tracks, tracked}
use Rattle.ov_plum.specs.PlumState.{PlumState, is_linked}
use Rattle.ov_plum.specs.PlumRows.{Delivered, HasPlumStep, PlumInput, receives, broadcasts, fires, goes_up, goes_down}
use Rattle.ov_plum.specs.PlumRows.{most_sends_at, most_sends_at_message}
use Rattle.ov_plum.specs.PlumChange.{IsPlumChange, IsPlumPlan, plum_after}
use Rattle.ov_plum.specs.declared.plum_change.PlumPlan.{PlumPlan}
use Rattle.ov_plum.specs.declared.plum_change.PlumChange.{PlumChange}
use Rattle.ov_plum.specs.declared.plum_change.PlumChange.TheVariants as plum
use Rattle.ov_peer.specs.Code.MovesPlan.{IsPlanOfMoves}
use Rattle.ov_peer.specs.Code.Messages.{AreSendable}
use Rattle.ov_peer.specs.Limits.{DrawnFrom, most_sends}
use Rattle.ov_peer.specs.PeerState.{PeerState, IsPeer}
use Rattle.ov_peer.specs.Step.{HyParViewPart, TreePart, Told, PeerStep, IsPeerStep, delivery_at}
use Rattle.ov_peer.specs.Planning.{hyparview_after, after_plan, Follows, Plans, IsPlanFor}
use Rattle.ov_peer.specs.declared.input_and_output.Input.{Input}
use Rattle.ov_peer.specs.declared.input_and_output.Input.TheVariants.{Boot, Receive, CrashReport, Shuffle, Broadcast}
use Rattle.ov_peer.specs.declared.input_and_output.Input.TheVariants.{Timer}
use Rattle.ov_peer.specs.declared.plan.Plan.{Plan}
use Rattle.ov_peer.specs.declared.plan.NextViews.{NextViews}
use Rattle.ov_peer.specs.declared.plan.HyParViewChange.{HyParViewChange}
use Rattle.ov_peer.specs.declared.plan.HyParViewChange.TheVariants.{Nothing}
use Rattle.ov_peer.proofs.Linking.{linked_eager, linked_lazy}
use Rattle.ov_peer.proofs.Steps.{peer_told, tree_rests}

-- the plan of a step of HyParView's part
pub moves_plan : (p : PeerState) (i : Input) (cs : List Choice) (moves : Moves) (m : HyParViewState) (g : Plan)
    → IsPlanOfMoves moves p.hyparview m g → HyParViewPart p.hyparview i cs m moves.changes.items moves.sends.items
    → TreePart p.tree i p.tree [] None → Plans p i cs g
moves_plan p i cs moves m g is n t =
    let sent = moves.sends.items in
    let changed : HyParViewPart p.hyparview i cs m g.changes.items sent =
    subst (λ (changes : List ViewChange). HyParViewPart p.hyparview i cs m changes sent)
    (sym (ap (λ v. v.items) is.changes)) n in
    record {
      hyparview_sends = sent;
      tree_sends = [];
      delivered = None;
      hyparview = subst (λ (x : HyParViewState). HyParViewPart p.hyparview i cs x g.changes.items sent)
          (sym is.hyparview) changed;
      tree = subst (λ (r : PlumChange). TreePart p.tree i (plum_after p.tree r) [] None) (sym is.tree) t;
      sends_both = ap (λ v. v.items) is.sends ∙ sym (append-nil sent);
      delivers = is.delivered;
    }

-- a step of HyParView's part of copies of a node's views and attempt is one of the node
copied_step : (n m : HyParViewState) (copied : NextViews) (i : Input) (cs : List Choice) (changes : List ViewChange)
    (sends : List (ℕ × Message)) → copied ≡ record { views = n.views; attempt = n.attempt }
    → HyParViewPart (record n { views = copied.views; attempt = copied.attempt }) i cs m changes sends
    → HyParViewPart n i cs m changes sends
copied_step n m copied i cs changes sends same step =
    let of : NextViews → HyParViewState = λ c. record n { views = c.views; attempt = c.attempt } in
    subst (λ (c : NextViews). HyParViewPart (of c) i cs m changes sends) same step

-- so the plan to have the views and the attempt that a handler made of the copies is that of a step
pub copied_plan : (p q : PeerState) (i : Input) (cs : List Choice) (copied next : NextViews) (moves : Moves) (g : Plan)
    → p ≡ q
    → copied ≡ record { views = q.hyparview.views; attempt = q.hyparview.attempt }
    → ((n : HyParViewState) → IsPlanOfMoves moves n (record n { views = next.views; attempt = next.attempt }) g)
    → HyParViewPart (record p.hyparview { views = copied.views; attempt = copied.attempt }) i cs
    (record p.hyparview { views = next.views; attempt = next.attempt }) moves.changes.items moves.sends.items
    → TreePart p.tree i p.tree [] None → Plans q i cs g
copied_plan p q i cs copied next moves g whole same is step t =
    let after : HyParViewState = record p.hyparview { views = next.views; attempt = next.attempt } in
    let of : PeerState → NextViews = λ w. record { views = w.hyparview.views; attempt = w.hyparview.attempt } in
    let one = copied_step p.hyparview after copied i cs moves.changes.items moves.sends.items (same ∙ sym (ap of whole))
    step in
    subst (λ (w : PeerState). Plans w i cs g) whole (moves_plan p i cs moves after g (is p.hyparview) one t)

-- the plan of a step of Plumtree's part
pub tree_plan : (me : ℕ) (p q : PeerState) (i : Input) (planned : PlumPlan) (g : Plan) → p ≡ q
    → me ≡ p.hyparview.views.me → g.sends ≡ planned.spread.sends → g.changes.items ≡ []
    → g.delivered ≡ delivery_at me planned.spread.delivered → g.views_change ≡ Nothing
    → g.plum_change ≡ planned.plum_change → HyParViewPart p.hyparview i [] p.hyparview [] []
    → TreePart p.tree i (plum_after p.tree planned.plum_change) planned.spread.sends.items planned.spread.delivered
    → Plans q i [] g
tree_plan me p q i planned g whole mine sends changes delivered views_change plum_change n t =
    let spread = planned.spread.sends.items in
    let d = planned.spread.delivered in
    let told = subst (λ (cs : List ViewChange). HyParViewPart p.hyparview i [] p.hyparview cs []) (sym changes) n in
    let plan : Plans p i [] g = record {
      hyparview_sends = [];
      tree_sends = spread;
      delivered = d;
      hyparview = subst
          (λ (c : HyParViewChange). HyParViewPart p.hyparview i [] (hyparview_after p.hyparview c) g.changes.items [])
          (sym views_change) told;
      tree = subst (λ (r : PlumChange). TreePart p.tree i (plum_after p.tree r) spread d) (sym plum_change) t;
      sends_both = ap (λ v. v.items) sends;
      delivers = delivered ∙ ap (λ m. delivery_at m d) mine;
    } in
    subst (λ (w : PeerState). Plans w i [] g) whole plan

-- the change that changes nothing is one of a step, as at a message of HyParView
rests : (t : PlumState) → IsPlumChange t plum.Nothing
rests t = record {
  input = receives (record { from = t.me; body = Join });
  sends = [];
  delivery = None;
  allowed = tree_rests t t.me Join (omega arith);
}

-- what a step of a node does with its tree, before this is told changes, is a step of the tree
tree_steps : (t : PlumState) (i : Input) (u : PlumState) (spread : List (ℕ × Message)) (delivered : Option Delivered)
    → TreePart t i u spread delivered → HasPlumStep t u
tree_steps t (Boot contact) u spread delivered h = subst (HasPlumStep t) (sym h.0) (rests t)
tree_steps t (Receive message) u spread delivered h =
    record { input = receives message; sends = spread; delivery = delivered; allowed = h }
tree_steps t (CrashReport crashed) u spread delivered h = subst (HasPlumStep t) (sym h.0) (rests t)
tree_steps t Shuffle u spread delivered h = subst (HasPlumStep t) (sym h.0) (rests t)
tree_steps t (Broadcast payload) u spread delivered h =
    record { input = broadcasts payload; sends = spread; delivery = delivered; allowed = h }
tree_steps t (Timer id) u spread delivered h =
    record { input = fires id; sends = spread; delivery = delivered; allowed = h }

-- so the change of the tree in a plan for the node is one of a step of its tree
pub fits_tree : (p : PeerState) (g : Plan) → IsPlanFor p g → IsPlumChange p.tree g.plum_change
fits_tree p g f =
    let plan = f.planned in
    tree_steps p.tree f.input (plum_after p.tree g.plum_change) plan.tree_sends plan.delivered plan.tree

-- the active view goes along with the changes, whatever the input is
hyparview_tracks : (n : HyParViewState) (i : Input) (cs : List Choice) (m : HyParViewState) (changes : List ViewChange)
    (sends : List (ℕ × Message)) → HyParViewPart n i cs m changes sends → Tracks n.views changes m.views
hyparview_tracks n (Boot contact) cs m changes sends h = tracked n (boots contact) cs m changes sends h
hyparview_tracks n (Receive message) cs m changes sends h =
    tracked n (hears message.from message.body) cs m changes sends h
hyparview_tracks n (CrashReport crashed) cs m changes sends h = tracked n (hears_of_crash crashed) cs m changes sends h
hyparview_tracks n Shuffle cs m changes sends h = tracked n shuffles cs m changes sends h
hyparview_tracks n (Broadcast payload) cs m changes sends h = tracked n (boots None) cs m changes sends h
hyparview_tracks n (Timer id) cs m changes sends h = tracked n (boots None) cs m changes sends h

-- and so it does where a plan for the node is followed
pub fits_tracks : (p : PeerState) (g : Plan) → IsPlanFor p g
    → Tracks p.hyparview.views g.changes.items (hyparview_after p.hyparview g.views_change).views
fits_tracks p g f =
    let plan = f.planned in
    hyparview_tracks p.hyparview f.input f.choices (hyparview_after p.hyparview g.views_change) g.changes.items
    plan.hyparview_sends plan.hyparview

pub followed_tracks : (p q : PeerState) (g : Plan) → IsPlanFor p g → Follows p g q
    → Tracks p.hyparview.views g.changes.items q.hyparview.views
followed_tracks p q g f h =
    subst (λ (n : HyParViewState). Tracks p.hyparview.views g.changes.items n.views) (sym h.hyparview)
    (fits_tracks p g f)

-- who follows the plan of a step takes this step
pub follows_step : (p q : PeerState) (i : Input) (cs : List Choice) (g : Plan) → Plans p i cs g → Follows p g q
    → PeerStep p i cs q g.sends.items g.changes.items g.delivered
follows_step p q i cs g plan h = record { between = after_plan p g; parts = plan; told = h }

-- who follows a plan for the node takes a step of it
pub fits_step : (p q : PeerState) (g : Plan) → IsPlanFor p g → Follows p g q
    → IsPeerStep p q g.sends.items g.changes.items g.delivered
fits_step p q g f h =
    record { input = f.input; choices = f.choices; step = follows_step p q f.input f.choices g f.planned h }

-- a change of the tree keeps whose tree it is
changed_me : (t : PlumState) (r : PlumChange) → (plum_after t r).me ≡ t.me
changed_me t plum.Nothing = refl
changed_me t (plum.Makes id kept next) = refl
changed_me t (plum.Holds id kept s) = refl
changed_me t (plum.Eager s) = refl
changed_me t (plum.Lazy s) = refl
changed_me t (plum.Awaits id s) = refl
changed_me t (plum.Asks id s) = refl
changed_me t (plum.Clears id) = refl

-- and who is a neighbour
changed_linked : (t : PlumState) (r : PlumChange) (x : ℕ)
    → is_linked (plum_after t r).branches x ≡ is_linked t.branches x
changed_linked t plum.Nothing x = refl
changed_linked t (plum.Makes id kept next) x = refl
changed_linked t (plum.Holds id kept s) x = linked_eager t.branches s x
changed_linked t (plum.Eager s) x = linked_eager t.branches s x
changed_linked t (plum.Lazy s) x = linked_lazy t.branches s x
changed_linked t (plum.Awaits id s) x = refl
changed_linked t (plum.Asks id s) x = linked_eager t.branches s x
changed_linked t (plum.Clears id) x = refl

-- so the neighbours are the active members after a change of the tree too
pub peer_changed : (p : PeerState) (r : PlumChange) (u : PlumState) → IsPeer p → u ≡ plum_after p.tree r
    → IsPeer (record { hyparview = p.hyparview; tree = u })
peer_changed p r u w is = record {
  me = ap (λ (s : PlumState). s.me) is ∙ changed_me p.tree r ∙ w.me;
  neighbours = λ x. ap (λ (s : PlumState). is_linked s.branches x) is ∙ changed_linked p.tree r x ∙ w.neighbours x;
}

-- and after it followed a plan
pub peer_followed : (p : PeerState) (g : Plan) (t u : PlumState) (m : HyParViewState) → IsPeer p → IsPlanFor p g
    → t ≡ plum_after p.tree g.plum_change → Told t g.changes.items u → m ≡ hyparview_after p.hyparview g.views_change
    → IsPeer (record { hyparview = m; tree = u })
peer_followed p g t u m w fits is told hyparview =
    peer_told p.hyparview m t u g.changes.items (peer_changed p g.plum_change t w is)
    (subst (λ (n : HyParViewState). Tracks p.hyparview.views g.changes.items n.views) (sym hyparview)
    (fits_tracks p g fits)) told

-- who follows a plan that is drawn from these words takes a step drawn from them
pub drawn_step : (words : List ℕ) (p q : PeerState) (i : Input) (g : Plan) → DrawnFrom words (λ cs. Plans p i cs g)
    → Follows p g q → DrawnFrom words (λ cs. PeerStep p i cs q g.sends.items g.changes.items g.delivered)
drawn_step words p q i g d h = (d.0, d.1, (d.2.0, d.2.1, follows_step p q i d.2.0 g d.2.2 h))

-- a step of the tree at a message is planned
abbrev pub TreeHears : PlumState → ℕ → Body → PlumPlan → Type 0
TreeHears t from body planned = IsPlumPlan t (receives (record { from = from; body = body })) planned

-- and the message does nothing in HyParView's part
pub record HeardByTree (p : PeerState) (from : ℕ) (body : Body) (planned : PlumPlan) : Type 0 where
  pub hyparview : HyParViewPart p.hyparview (Receive (record { from = from; body = body })) [] p.hyparview [] []
  pub tree : TreeHears p.tree from body planned

-- of one kind of message
pub heard_as : (p : PeerState) (from : ℕ) (kind body : Body) (by planned : PlumPlan) → body ≡ kind → planned ≡ by
    → HyParViewPart p.hyparview (Receive (record { from = from; body = kind })) [] p.hyparview [] []
    → TreeHears p.tree from kind by → HeardByTree p from body planned
heard_as p from kind body by planned is same n t =
    let heard : HeardByTree p from kind planned =
    subst (HeardByTree p from kind) (sym same) (record { hyparview = n; tree = t }) in
    subst (λ (b : Body). HeardByTree p from b planned) (sym is) heard

-- the plan of such a message
pub heard_plan : (me : ℕ) (p q : PeerState) (from : ℕ) (body : Body) (planned : PlumPlan) (g : Plan) → p ≡ q
    → me ≡ p.hyparview.views.me → g.sends ≡ planned.spread.sends → g.changes.items ≡ []
    → g.delivered ≡ delivery_at me planned.spread.delivered → g.views_change ≡ Nothing
    → g.plum_change ≡ planned.plum_change → HeardByTree p from body planned
    → Plans q (Receive (record { from = from; body = body })) [] g
heard_plan me p q from body planned g whole mine sends changes delivered views_change plum_change heard =
    tree_plan me p q (Receive (record { from = from; body = body })) planned g whole mine sends changes delivered
    views_change plum_change heard.hyparview heard.tree.0

-- the tree sends at most 64 messages at a message
few_answers : (body : Body) → most_sends_at_message body ≤ most_sends
few_answers Join = omega arith
few_answers (ForwardJoin node ttl) = omega arith
few_answers Joined = omega arith
few_answers (Neighbor high) = omega arith
few_answers (NeighborReply accepted) = omega arith
few_answers Disconnect = omega arith
few_answers (body.Shuffle origin ttl ids) = omega arith
few_answers (ShuffleReply ids) = omega arith
few_answers (Gossip id round payload) = omega arith
few_answers (IHave id) = omega arith
few_answers (Graft id) = omega arith
few_answers Prune = omega arith

-- and whatever comes
few_sends : (i : PlumInput) → most_sends_at i ≤ most_sends
few_sends (broadcasts payload) = omega arith
few_sends (receives message) = few_answers message.body
few_sends (fires id) = omega arith
few_sends (goes_up x) = omega arith
few_sends (goes_down x) = omega arith

-- so what a plan of the tree sends may be sent in one step
pub tree_sendable : (t : PlumState) (i : PlumInput) (planned : PlumPlan) (g : Plan) → g.sends ≡ planned.spread.sends
    → IsPlumPlan t i planned → AreSendable g.sends.items
tree_sendable t i planned g sends ok =
    let few : length planned.spread.sends.items ≤ most_sends =
    omega (arith, ok.2, planned.spread.sends.ok.0, few_sends i) in
    subst AreSendable (sym (ap (λ v. v.items) sends)) (few, ok.1)
