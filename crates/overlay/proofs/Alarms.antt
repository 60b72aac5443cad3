-- A status of what is asked for is one of the arguments that ask for it.
use Rattle.std.proofs.Common.{◌≡◌, ◌≢◌, ◌⊎◌, ℕ, Bool, List, Option, Some, None, inl, inr, codes}
use Rattle.ov_command_tree.specs.Flags.{is_flagged}
use Rattle.ov_arguments.specs.Arguments.{IsOfGiven, least_asked, text_given}
use Rattle.ov_arguments.specs.declared.arguments.Request.{Request}
use Rattle.ov_arguments.specs.declared.arguments.Request.TheVariants.{Run, Analyse, Import, Picture, Graph, Tell}
use Rattle.ov_commands.specs.Statuses.{IsAlarmStatus}
use Rattle.overlay.specs.Program.{IsStatusGiven, IsStatusOf}

-- a least number is asked for by a text
least_given : (large : Bool) (text : Option (List ℕ)) (least : Option ℕ) (status : ℕ)
    → least_asked large text ≡ Some least → IsAlarmStatus least status
    → (status ≡ 0) ⊎ ((status ≡ 3) × (text ≢ None))
least_given large text None status is zero = inl zero
least_given large text (Some k) status is (inl zero) = inl zero
least_given large None (Some k) status is (inr three) = absurd cc
least_given large (Some t) (Some k) status is (inr three) = inr (three, λ none. absurd cc)

pub status_given : (arguments : List (List ℕ)) (r : Request) (status : ℕ) → IsOfGiven arguments r
    → IsStatusOf r status → IsStatusGiven arguments status
status_given arguments (Analyse file analysis) status given is =
    let large = is_flagged (text_given arguments (codes "large")) in
    let text = text_given arguments (codes "at-least") in
    elim (least_given large text analysis.at_least status given.1.5 is) [
      | inl zero ↦ inl zero
      | inr three ↦ inr (three.0, given.1.0, three.1)
    ]
status_given arguments (Run file run) status given is = inl is
status_given arguments (Import file dump) status given is = inl is
status_given arguments (Picture file picture) status given is = inl is
status_given arguments (Graph file large) status given is = inl is
status_given arguments (Tell telling) status given is = inl is
