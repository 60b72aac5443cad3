-- One step of a node: a step of HyParView's part (`Allowed`) and one of Plumtree's (`AllowedTree`), which then hears
-- how the active view changed. That one input is one step of both parts is chosen here.
use Rattle.std.specs.Prelude.{◌≡◌, ℕ, List, [], ◌∷◌, ◌++◌, Option, None}
use Rattle.std.specs.Option.{option_map}
use Rattle.ov_wire.specs.declared.message.Message.{Message}
use Rattle.ov_words.specs.Pick.{Choice}
use Rattle.ov_views.specs.Allowed.{HyParViewState, Allowed, DoesNothing, boots, hears, hears_of_crash, shuffles}
use Rattle.ov_views.specs.declared.change.ViewChange.{ViewChange}
use Rattle.ov_views.specs.declared.change.ViewChange.TheVariants.{Up, Down}
use Rattle.ov_plum.specs.PlumState.{PlumState}
use Rattle.ov_plum.specs.PlumRows.{AllowedTree, Delivered, IsQuiet, broadcasts, receives, fires, goes_up, goes_down}
use Rattle.ov_peer.specs.PeerState.{PeerState}
use Rattle.ov_peer.specs.declared.input_and_output.Input.{Input}
use Rattle.ov_peer.specs.declared.input_and_output.Input.TheVariants.{Boot, Receive, CrashReport, Broadcast, Timer}
use Rattle.ov_peer.specs.declared.input_and_output.Input.TheVariants as input
use Rattle.ov_peer.specs.declared.input_and_output.Delivery.{Delivery}

-- HyParView's part of a step, from n to m. At a broadcast and at a timer it does nothing.
abbrev pub HyParViewPart :
    HyParViewState → Input → List Choice → HyParViewState → List ViewChange → List (ℕ × Message) → Type 0
HyParViewPart n (Boot contact) choices m changes sends = Allowed n (boots contact) choices m changes sends
HyParViewPart n (Receive message) choices m changes sends =
    Allowed n (hears message.from message.body) choices m changes sends
HyParViewPart n (CrashReport p) choices m changes sends = Allowed n (hears_of_crash p) choices m changes sends
HyParViewPart n input.Shuffle choices m changes sends = Allowed n shuffles choices m changes sends
HyParViewPart n (Broadcast payload) choices m changes sends = DoesNothing n choices m changes × (sends ≡ [])
HyParViewPart n (Timer id) choices m changes sends = DoesNothing n choices m changes × (sends ≡ [])

-- Plumtree's part of a step, from t to u. At a boot, a crash report and a shuffle it does nothing.
abbrev pub TreePart : PlumState → Input → PlumState → List (ℕ × Message) → Option Delivered → Type 0
TreePart t (Boot contact) u sends delivery = (u ≡ t) × IsQuiet sends delivery
TreePart t (Receive message) u sends delivery = AllowedTree t (receives message) u sends delivery
TreePart t (CrashReport p) u sends delivery = (u ≡ t) × IsQuiet sends delivery
TreePart t input.Shuffle u sends delivery = (u ≡ t) × IsQuiet sends delivery
TreePart t (Broadcast payload) u sends delivery = AllowedTree t (broadcasts payload) u sends delivery
TreePart t (Timer id) u sends delivery = AllowedTree t (fires id) u sends delivery

-- The tree t hears of these changes of the active view, one after another, and is u then.
abbrev pub Told : PlumState → List ViewChange → PlumState → Type 0
Told t [] u = u ≡ t
Told t (Up x ∷ changes) u = (next : PlumState) × AllowedTree t (goes_up x) next [] None × Told next changes u
Told t (Down x ∷ changes) u = (next : PlumState) × AllowedTree t (goes_down x) next [] None × Told next changes u

-- What a node delivers, with its own id.
abbrev pub delivery_at : ℕ → Option Delivered → Option Delivery
delivery_at me delivery = option_map (λ d. record { node = me; id = d.0; payload = d.1 }) delivery

-- Both parts of the node p take the input, with these choices, and p is m then. Its tree has not heard yet how the
-- active view changed. The messages of HyParView's part are sent first, then those of Plumtree's, which also delivers.
pub record PartsStep (p : PeerState) (input : Input) (choices : List Choice) (m : PeerState)
    (sends : List (ℕ × Message)) (changes : List ViewChange) (delivery : Option Delivery) : Type 0 where
  pub hyparview_sends : List (ℕ × Message)
  pub tree_sends : List (ℕ × Message)
  pub delivered : Option Delivered
  pub hyparview : HyParViewPart p.hyparview input choices m.hyparview changes hyparview_sends
  pub tree : TreePart p.tree input m.tree tree_sends delivered
  pub sends_both : sends ≡ hyparview_sends ++ tree_sends
  pub delivers : delivery ≡ delivery_at p.hyparview.views.me delivered

-- The tree of the node m hears of these changes of its active view, and m is q then. Nothing else changes.
pub record HearsChanges (m : PeerState) (changes : List ViewChange) (q : PeerState) : Type 0 where
  pub hyparview : q.hyparview ≡ m.hyparview
  pub told : Told m.tree changes q.tree

-- One step: the node p takes an input, with these choices, and is q afterwards. It sends these messages and makes these
-- changes of its active view, each in this order, and it delivers this.
pub record PeerStep (p : PeerState) (input : Input) (choices : List Choice) (q : PeerState)
    (sends : List (ℕ × Message)) (changes : List ViewChange) (delivery : Option Delivery) : Type 0 where
  pub between : PeerState
  pub parts : PartsStep p input choices between sends changes delivery
  pub told : HearsChanges between changes q

-- Some step leads from the node p to q: at some input and with some choices, it sends, changes and delivers this.
pub record IsPeerStep (p q : PeerState) (sends : List (ℕ × Message)) (changes : List ViewChange)
    (delivery : Option Delivery) : Type 0 where
  pub input : Input
  pub choices : List Choice
  pub step : PeerStep p input choices q sends changes delivery
