-- A step of a node is one: its state, its input and the random words fix its state after it, what it sends, how its
-- active view changes and what it delivers.
use Rattle.std.proofs.Common.{◌≡◌, ℕ, List, [], ◌∷◌, ◌++◌, Option, None, sym, ◌∙◌, subst}
use Rattle.ov_wire.specs.declared.message.Message.{Message}
use Rattle.ov_words.specs.Pick.{Choice, AreDrawn}
use Rattle.ov_views.specs.Allowed.{HyParViewState, DoesNothing, boots, hears, hears_of_crash, shuffles}
use Rattle.ov_views.specs.declared.change.ViewChange.{ViewChange}
use Rattle.ov_views.specs.declared.change.ViewChange.TheVariants.{Up, Down}
use Rattle.ov_net.proofs.OneStep.OfViews.{SameAllowed, allowed_same, via, via₂}
use Rattle.ov_plum.specs.PlumState.{PlumState}
use Rattle.ov_plum.specs.PlumRows.{Delivered, IsQuiet, broadcasts, receives, fires, goes_up, goes_down}
use Rattle.ov_net.proofs.OneStep.OfTree.{SameTree, tree_same}
use Rattle.ov_peer.specs.PeerState.{PeerState}
use Rattle.ov_peer.specs.Step.{HyParViewPart, TreePart, Told, PeerStep, delivery_at}
use Rattle.ov_peer.specs.declared.input_and_output.Delivery.{Delivery}
use Rattle.ov_peer.specs.declared.input_and_output.Input.{Input}
use Rattle.ov_peer.specs.declared.input_and_output.Input.TheVariants.{Boot, Receive, CrashReport, Broadcast, Timer}
use Rattle.ov_peer.specs.declared.input_and_output.Input.TheVariants as input

rested : (n m m' : HyParViewState) (c d : List Choice) (a b : List ViewChange) (x y : List (ℕ × Message))
    → DoesNothing n c m a × (x ≡ []) → DoesNothing n d m' b × (y ≡ []) → SameAllowed c d m m' a b x y
rested n m m' c d a b x y h k = record {
  choices = h.0.0 ∙ sym k.0.0;
  state = h.0.1 ∙ sym k.0.1;
  changes = h.0.2 ∙ sym k.0.2;
  sends = h.1 ∙ sym k.1;
}

views_part : (words left right : List ℕ) (n m m' : HyParViewState) (i : Input) (c d : List Choice)
    (a b : List ViewChange) (x y : List (ℕ × Message)) → AreDrawn c words left → AreDrawn d words right
    → HyParViewPart n i c m a x → HyParViewPart n i d m' b y → SameAllowed c d m m' a b x y
views_part words left right n m m' (Boot contact) c d a b x y e f h k =
    allowed_same words left right n m m' (boots contact) c d a b x y e f h k
views_part words left right n m m' (Receive message) c d a b x y e f h k =
    allowed_same words left right n m m' (hears message.from message.body) c d a b x y e f h k
views_part words left right n m m' (CrashReport p) c d a b x y e f h k =
    allowed_same words left right n m m' (hears_of_crash p) c d a b x y e f h k
views_part words left right n m m' input.Shuffle c d a b x y e f h k =
    allowed_same words left right n m m' shuffles c d a b x y e f h k
views_part words left right n m m' (Broadcast payload) c d a b x y e f h k = rested n m m' c d a b x y h k
views_part words left right n m m' (Timer id) c d a b x y e f h k = rested n m m' c d a b x y h k

quiet_tree : (t u v : PlumState) (s r : List (ℕ × Message)) (d e : Option Delivered) → (u ≡ t) × IsQuiet s d
    → (v ≡ t) × IsQuiet r e → SameTree u v s r d e
quiet_tree t u v s r d e h k =
    record { state = h.0 ∙ sym k.0; sends = h.1.0 ∙ sym k.1.0; delivery = h.1.1 ∙ sym k.1.1 }

tree_part : (t : PlumState) (i : Input) (u v : PlumState) (s r : List (ℕ × Message)) (d e : Option Delivered)
    → TreePart t i u s d → TreePart t i v r e → SameTree u v s r d e
tree_part t (Boot contact) u v s r d e h k = quiet_tree t u v s r d e h k
tree_part t (Receive message) u v s r d e h k = tree_same t (receives message) u v s r d e h k
tree_part t (CrashReport p) u v s r d e h k = quiet_tree t u v s r d e h k
tree_part t input.Shuffle u v s r d e h k = quiet_tree t u v s r d e h k
tree_part t (Broadcast payload) u v s r d e h k = tree_same t (broadcasts payload) u v s r d e h k
tree_part t (Timer id) u v s r d e h k = tree_same t (fires id) u v s r d e h k

told_same : (t : PlumState) (changes : List ViewChange) (u v : PlumState) → Told t changes u → Told t changes v → u ≡ v
told_same t [] u v h k = h ∙ sym k
told_same t (Up x ∷ changes) u v h k =
    let e = tree_same t (goes_up x) h.0 k.0 [] [] None None h.1 k.1 in
    told_same h.0 changes u v h.2 (subst (λ z. Told z changes v) (sym e.state) k.2)
told_same t (Down x ∷ changes) u v h k =
    let e = tree_same t (goes_down x) h.0 k.0 [] [] None None h.1 k.1 in
    told_same h.0 changes u v h.2 (subst (λ z. Told z changes v) (sym e.state) k.2)

-- a step that only one result fits
pub record SameStep (q r : PeerState) (s t : List (ℕ × Message)) (a b : List ViewChange) (d e : Option Delivery)
    : Type 0 where
  pub state : q ≡ r
  pub sends : s ≡ t
  pub changes : a ≡ b
  pub delivery : d ≡ e

-- of one state, at one input and with the same words, there is one step
pub step_same : (words left right : List ℕ) (p : PeerState) (i : Input) (c d : List Choice) (q r : PeerState)
    (s t : List (ℕ × Message)) (a b : List ViewChange) (x y : Option Delivery) → AreDrawn c words left
    → AreDrawn d words right → PeerStep p i c q s a x → PeerStep p i d r t b y → SameStep q r s t a b x y
step_same words left right p i c d q r s t a b x y e f h k =
    let views = views_part words left right p.hyparview h.between.hyparview k.between.hyparview i c d a b
    h.parts.hyparview_sends k.parts.hyparview_sends e f h.parts.hyparview k.parts.hyparview in
    let tree = tree_part p.tree i h.between.tree k.between.tree h.parts.tree_sends k.parts.tree_sends h.parts.delivered
    k.parts.delivered h.parts.tree k.parts.tree in
    let node = h.told.hyparview ∙ views.state ∙ sym k.told.hyparview in
    let told = told_same h.between.tree a q.tree r.tree h.told.told
    (subst (λ z. Told z a r.tree) (sym tree.state)
    (subst (λ z. Told k.between.tree z r.tree) (sym views.changes) k.told.told)) in record {
      state = λ j. record { hyparview = node j; tree = told j };
      sends = via₂ (λ (v w : List (ℕ × Message)). v ++ w) h.parts.sends_both k.parts.sends_both views.sends tree.sends;
      changes = views.changes;
      delivery = via (λ z. delivery_at p.hyparview.views.me z) h.parts.delivers k.parts.delivers tree.delivery;
    }
