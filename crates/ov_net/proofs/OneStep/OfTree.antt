-- A step of a node's part of Plumtree is one: its input fixes what is kept after it, what is sent, and what is
-- delivered.
use Rattle.std.proofs.Common.{◌≡◌, ℕ, List, ◌||◌, not, eqb, Option, None, Some, sym, ◌∙◌}
use Rattle.std.specs.Prelude.{MatchOption}
use Rattle.std.specs.FinMap as map
use Rattle.ov_wire.specs.declared.message.Message.{Message}
use Rattle.ov_wire.specs.declared.message.Body.{Body}
use Rattle.ov_wire.specs.declared.message.Body.TheVariants.{Join, ForwardJoin, Joined, Neighbor, NeighborReply}
use Rattle.ov_wire.specs.declared.message.Body.TheVariants.{Disconnect, Shuffle, ShuffleReply, Gossip, IHave, Graft}
use Rattle.ov_wire.specs.declared.message.Body.TheVariants.{Prune}
use Rattle.ov_plum.specs.Notes.{oldest}
use Rattle.ov_plum.specs.PlumRows.{AllowedFrom, AllowedTree, Delivered, IsQuiet, PlumInput, broadcasts, receives, fires}
use Rattle.ov_plum.specs.PlumRows.{goes_up, goes_down}
use Rattle.ov_plum.specs.PlumState.{PlumState, is_linked}
use Rattle.ov_net.proofs.OneStep.OfViews.{in_each_case}

-- what follows of two facts, by the cases of one option
in_each_option : {X P S R : Type 0} {Q T : X → Type 0} (o : Option X) → (P → S → R) → ((x : X) → Q x → T x → R)
    → MatchOption o P Q → MatchOption o S T → R
in_each_option None f g h k = f h k
in_each_option (Some x) f g h k = g x h k

-- a step that only one result fits
pub record SameTree (u v : PlumState) (s t : List (ℕ × Message)) (d e : Option Delivered) : Type 0 where
  pub state : u ≡ v
  pub sends : s ≡ t
  pub delivery : d ≡ e

quiet_same : (t u v : PlumState) (s r : List (ℕ × Message)) (d e : Option Delivered) → (u ≡ t) × IsQuiet s d
    → (v ≡ t) × IsQuiet r e → SameTree u v s r d e
quiet_same t u v s r d e h k =
    record { state = h.0 ∙ sym k.0; sends = h.1.0 ∙ sym k.1.0; delivery = h.1.1 ∙ sym k.1.1 }

from_same : (t : PlumState) (from : ℕ) (body : Body) (u v : PlumState) (s r : List (ℕ × Message))
    (d e : Option Delivered) → AllowedFrom t from body u s d → AllowedFrom t from body v r e → SameTree u v s r d e
from_same t from (Gossip id round payload) u v s r d e h k =
    in_each_case (map.contains_key t.held id)
    (λ f g. record { state = f.0 ∙ sym g.0; sends = f.1 ∙ sym g.1; delivery = f.2 ∙ sym g.2 })
    (λ f g. record { state = f.0 ∙ sym g.0; sends = f.1 ∙ sym g.1; delivery = f.2 ∙ sym g.2 }) h k
from_same t from (IHave id) u v s r d e h k = record {
  state = in_each_case (map.contains_key t.held id || not (is_linked t.branches from)) (λ f g. f ∙ sym g)
      (λ f g. f ∙ sym g) h.1 k.1;
  sends = h.0.0 ∙ sym k.0.0;
  delivery = h.0.1 ∙ sym k.0.1;
}
from_same t from (Graft id) u v s r d e h k = record {
  state = h.0 ∙ sym k.0;
  sends = in_each_option (map.get t.held id) (λ f g. f ∙ sym g) (λ x f g. f ∙ sym g) h.2 k.2;
  delivery = h.1 ∙ sym k.1;
}
from_same t from Prune u v s r d e h k =
    record { state = h.0 ∙ sym k.0; sends = h.1.0 ∙ sym k.1.0; delivery = h.1.1 ∙ sym k.1.1 }
from_same t from Join u v s r d e h k = quiet_same t u v s r d e h k
from_same t from (ForwardJoin node ttl) u v s r d e h k = quiet_same t u v s r d e h k
from_same t from Joined u v s r d e h k = quiet_same t u v s r d e h k
from_same t from (Neighbor high) u v s r d e h k = quiet_same t u v s r d e h k
from_same t from (NeighborReply accepted) u v s r d e h k = quiet_same t u v s r d e h k
from_same t from Disconnect u v s r d e h k = quiet_same t u v s r d e h k
from_same t from (Shuffle origin ttl ids) u v s r d e h k = quiet_same t u v s r d e h k
from_same t from (ShuffleReply ids) u v s r d e h k = quiet_same t u v s r d e h k

-- of one state and at one input only one result is allowed
pub tree_same : (t : PlumState) (input : PlumInput) (u v : PlumState) (s r : List (ℕ × Message))
    (d e : Option Delivered) → AllowedTree t input u s d → AllowedTree t input v r e → SameTree u v s r d e
tree_same t (broadcasts payload) u v s r d e h k =
    record { state = h.0 ∙ sym k.0; sends = h.1 ∙ sym k.1; delivery = h.2 ∙ sym k.2 }
tree_same t (receives m) u v s r d e h k =
    in_each_case (eqb m.from t.me) (quiet_same t u v s r d e) (from_same t m.from m.body u v s r d e) h k
tree_same t (fires id) u v s r d e h k = record {
  state = in_each_option (oldest id t.notes) (λ f g. f.0 ∙ sym g.0) (λ x f g. f.0 ∙ sym g.0) h.2 k.2;
  sends = in_each_option (oldest id t.notes) (λ f g. f.1 ∙ sym g.1) (λ x f g. f.1 ∙ sym g.1) h.2 k.2;
  delivery = h.1 ∙ sym k.1;
}
tree_same t (goes_up x) u v s r d e h k =
    record { state = h.0 ∙ sym k.0; sends = h.1.0 ∙ sym k.1.0; delivery = h.1.1 ∙ sym k.1.1 }
tree_same t (goes_down x) u v s r d e h k =
    record { state = h.0 ∙ sym k.0; sends = h.1.0 ∙ sym k.1.0; delivery = h.1.1 ∙ sym k.1.1 }
