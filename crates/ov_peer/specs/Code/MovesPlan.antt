-- Plans of HyParView's part alone.
use Rattle.std.specs.Prelude.{◌≡◌, None}
use Rattle.ov_views.specs.Allowed.{HyParViewState}
use Rattle.ov_views.specs.declared.step_effects.Moves.{Moves}
use Rattle.ov_plum.specs.declared.plum_change.PlumChange.TheVariants.{Nothing}
use Rattle.ov_peer.specs.Planning.{hyparview_after}
use Rattle.ov_peer.specs.declared.plan.Plan.{Plan}

-- The plan sends what the moves send and changes the active view as they do. HyParView's part of the node is n before
-- the plan and m after it. The tree stays, and nothing is delivered.
pub record IsPlanOfMoves (moves : Moves) (n m : HyParViewState) (plan : Plan) : Type 0 where
  pub sends : plan.sends ≡ moves.sends
  pub changes : plan.changes ≡ moves.changes
  pub delivered : plan.delivered ≡ None
  pub hyparview : hyparview_after n plan.views_change ≡ m
  pub tree : plan.plum_change ≡ Nothing
