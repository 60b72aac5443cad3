-- Plans and the changes that they make.
use Rattle.ov_plum.specs.PlumChange.{IsPlumChange, IsPlumPlan}
use Rattle.ov_plum.specs.PlumRows.{PlumInput}
use Rattle.ov_plum.specs.PlumState.{PlumState}
use Rattle.ov_plum.specs.declared.plum_change.PlumPlan.{PlumPlan}

-- the change of a plan is that of a step
pub change_planned : (t : PlumState) (input : PlumInput) (plan : PlumPlan) → IsPlumPlan t input plan
    → IsPlumChange t plan.plum_change
change_planned t input plan right = record { input = input; sends = _; delivery = _; allowed = right.0 }
