-- What private contracts say of the plan of a step.
use Rattle.std.specs.Prelude.{ℕ, ◌+◌, ◌≤◌, List, length}
use Rattle.ov_words.specs.Pick.{Drawn}
use Rattle.ov_views.specs.Handling.{step_words}
use Rattle.ov_peer.specs.Code.Messages.{AreSendable}
use Rattle.ov_peer.specs.PeerState.{PeerState}
use Rattle.ov_peer.specs.Planning.{Plans}
use Rattle.ov_peer.specs.declared.input_and_output.Input.{Input}
use Rattle.ov_peer.specs.declared.plan.Plan.{Plan}

-- how many random words of an event a step uses at most: those of one handler
abbrev pub most_words : ℕ
most_words = step_words

-- The plan is that of a step of the node p at this input, with choices drawn from the words `before`. The words `after`
-- are left: at most 40 are used. What the plan sends may be sent in one step.
pub record IsGoodPlan (p : PeerState) (input : Input) (before after : List ℕ) (plan : Plan) : Type 0 where
  pub planned : Drawn before after (λ choices. Plans p input choices plan)
  pub words : length before ≤ length after + most_words
  pub sendable : AreSendable plan.sends.items
