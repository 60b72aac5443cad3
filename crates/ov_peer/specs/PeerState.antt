-- The state of a node.
use Rattle.std.specs.Prelude.{◌≡◌, ℕ, [], None}
use Rattle.ov_ids.specs.ParamsState.{ParamsState}
use Rattle.ov_ids.specs.Sets.{has}
use Rattle.ov_views.specs.Allowed.{HyParViewState}
use Rattle.ov_plum.specs.PlumState.{PlumState, is_linked, newborn_plum}

-- What a node keeps: its views, its attempt and the list of its last shuffle (`hyparview`), and its part of Plumtree's
-- tree (`tree`).
pub record PeerState : Type 0 where
  pub hyparview : HyParViewState
  pub tree : PlumState

-- Both parts are those of one node, and its neighbours in the tree are its active members: each of these is eager or
-- lazy, and no other node is.
pub record IsPeer (p : PeerState) : Type 0 where
  pub me : p.tree.me ≡ p.hyparview.views.me
  pub neighbours : (x : ℕ) → is_linked p.tree.branches x ≡ has p.hyparview.views.active x

-- A node at its birth: it knows nobody, and has sent, held and broadcast nothing.
abbrev pub newborn : ℕ → ParamsState → PeerState
newborn me params = record {
  hyparview = record {
    views = record { me = me; params = params; active = []; passive = [] };
    attempt = record { asked = None; tried = [] };
    sent = [];
  };
  tree = newborn_plum me;
}
