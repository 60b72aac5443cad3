-- A node's two views of the overlay, as in HyParView (Leitão, Pereira, Rodrigues, DSN 2007).
use Rattle.std.specs.Prelude.{ℕ, ◌≤◌, nat_lt, Bool, ◌||◌, ◌==◌, List, length}
use Rattle.ov_ids.specs.ParamsState.{ParamsState, AreWithinLimits}
use Rattle.ov_ids.specs.Sets.{IsSet, has, IsIn}
use Rattle.ov_views.specs.declared.views.View.{View}
use Rattle.ov_views.specs.declared.views.View.TheVariants.{Active, Passive}

-- a node, its parameters, and its active and its passive view, each a set of ids
pub record ViewsState : Type 0 where
  pub me : ℕ
  pub params : ParamsState
  pub active : List ℕ
  pub passive : List ℕ

-- The parameters are within their limits. Each view is a set within its size and lacks the node itself. The views
-- share no member.
pub record AreViews (v : ViewsState) : Type 0 where
  pub limits : AreWithinLimits v.params
  pub active_set : IsSet v.active
  pub passive_set : IsSet v.passive
  pub active_size : length v.active ≤ v.params.active
  pub passive_size : length v.passive ≤ v.params.passive
  pub active_others : ¬ IsIn v.active v.me
  pub passive_others : ¬ IsIn v.passive v.me
  pub apart : (x : ℕ) → IsIn v.active x → ¬ IsIn v.passive x

-- the members of one of the views
abbrev pub members : View → ViewsState → List ℕ
members Active v = v.active
members Passive v = v.passive

-- x is the node itself or active
abbrev pub is_close : ViewsState → ℕ → Bool
is_close v x = (x == v.me) || has v.active x

-- x is the node itself, active or passive
abbrev pub is_known : ViewsState → ℕ → Bool
is_known v x = is_close v x || has v.passive x

-- a place is free in the active view: it has fewer members than its size
abbrev pub has_place : ViewsState → Bool
has_place v = nat_lt (length v.active) v.params.active

-- a place is free in the passive view
abbrev pub has_passive_place : ViewsState → Bool
has_passive_place v = nat_lt (length v.passive) v.params.passive
