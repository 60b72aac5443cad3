-- Steps that are planned and then applied. That a step has these two halves is chosen here.
use Rattle.std.specs.Prelude.{List}
use Rattle.ov_words.specs.Pick.{Choice}
use Rattle.ov_views.specs.Allowed.{HyParViewState}
use Rattle.ov_plum.specs.PlumChange.{plum_after}
use Rattle.ov_peer.specs.PeerState.{PeerState}
use Rattle.ov_peer.specs.Step.{PartsStep, HearsChanges}
use Rattle.ov_peer.specs.declared.input_and_output.Input.{Input}
use Rattle.ov_peer.specs.declared.input_and_output.Output.{Output}
use Rattle.ov_peer.specs.declared.plan.Plan.{Plan}
use Rattle.ov_peer.specs.declared.plan.HyParViewChange.{HyParViewChange}
use Rattle.ov_peer.specs.declared.plan.HyParViewChange.TheVariants.{Nothing, ViewsAndAttempt, Shuffle}

-- HyParView's part of a node after a plan's change of it.
abbrev pub hyparview_after : HyParViewState → HyParViewChange → HyParViewState
hyparview_after n Nothing = n
hyparview_after n (ViewsAndAttempt next) = record n { views = next.value.views; attempt = next.value.attempt }
hyparview_after n (Shuffle list) = record n { sent = list }

-- The node p after the plan's changes of its parts. Its tree has not heard yet how the active view changed.
abbrev pub after_plan : PeerState → Plan → PeerState
after_plan p plan = record {
  hyparview = hyparview_after p.hyparview plan.views_change;
  tree = plum_after p.tree plan.plum_change;
}

-- The node p follows the plan and is q then: its parts change as planned, and its tree hears how the active view
-- changed.
abbrev pub Follows : PeerState → Plan → PeerState → Type 0
Follows p plan q = HearsChanges (after_plan p plan) plan.changes.items q

-- The plan is that of a step of the node p, at this input and with these choices: what it sends and delivers, and how
-- it changes the active view, is what this step does. So if p follows it and is q then, p has taken this step.
abbrev pub Plans : PeerState → Input → List Choice → Plan → Type 0
Plans p input choices plan =
    PartsStep p input choices (after_plan p plan) plan.sends.items plan.changes.items plan.delivered

-- The plan is that of some step of the node p as it now is. A plan that was made for another node, or before p changed,
-- need not be one for p.
pub record IsPlanFor (p : PeerState) (plan : Plan) : Type 0 where
  pub input : Input
  pub choices : List Choice
  pub planned : Plans p input choices plan

-- the effects of a plan: what it sends, how it changes the active view, and what it delivers
abbrev pub output_of : Plan → Output
output_of plan = record { sends = plan.sends; changes = plan.changes; delivered = plan.delivered }
