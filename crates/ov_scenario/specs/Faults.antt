-- The numbers of the faults of a scenario file, and how they are shown. The numbers are chosen here.
use Rattle.std.specs.Prelude.{ℕ, List, ◌++◌, codes, decimal}
use Rattle.ov_scenario.specs.declared.scenario_fault.LineFault.{LineFault}
use Rattle.ov_scenario.specs.declared.scenario_fault.LineFault.TheVariants as fault
use Rattle.ov_scenario.specs.declared.scenario_fault.ScenarioFault.{ScenarioFault}
use Rattle.ov_scenario.specs.declared.scenario_fault.ScenarioFault.TheVariants as refused
use Rattle.ov_scenario.specs.declared.scenario_fault.Setting.{Setting}
use Rattle.ov_scenario.specs.declared.scenario_fault.Setting.TheVariants as sets

-- the name of the lines that set it
abbrev pub name_of : Setting → List ℕ
name_of sets.Params = codes "params"
name_of sets.Seed = codes "seed"
name_of sets.Refill = codes "refill"
name_of sets.Scale = codes "scale"

-- the number of a fault of a line: parameters out of their limits have one of their own
abbrev pub line_fault_number : LineFault → ℕ
line_fault_number (fault.Unread unread) = 70
line_fault_number (fault.BehindEvent setting event) = 70
line_fault_number (fault.SetBefore setting line) = 70
line_fault_number (fault.OutOfLimits numbers) = 21
line_fault_number (fault.NoEventNext next) = 70
line_fault_number fault.NoEnd = 70
line_fault_number fault.NotInSection = 70
line_fault_number (fault.TooManySections together) = 70
line_fault_number (fault.NotHeld together) = 70

-- the fault's number
abbrev pub number_of : ScenarioFault → ℕ
number_of (refused.Line faulty) = line_fault_number faulty.fault
number_of refused.OutOfMemory = 99

-- how a fault is shown: `line 3: refused 70`, or `refused 99`
unfoldable pub scenario_fault_text : ScenarioFault → List ℕ
scenario_fault_text (refused.Line faulty) =
    codes "line " ++ (decimal faulty.line ++ (codes ": refused " ++ decimal (line_fault_number faulty.fault)))
scenario_fault_text refused.OutOfMemory = codes "refused " ++ decimal 99
