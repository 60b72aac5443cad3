-- Lists of the lines at fault of one file name the same lines.
use Rattle.ov_scenario.proofs.Scenarios.OneFault.{same_first, not_both}
use Rattle.ov_scenario.proofs.first_fault_theorem.first_line_has_the_fault.Goals as goal

pub returns : goal.returns
returns c = record { first = same_first; none = λ bytes s f says. not_both bytes f says.faultless }
