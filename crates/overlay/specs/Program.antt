-- What the program overlay prints of a fault, and its status.
use Rattle.std.specs.Prelude.{◌≡◌, ◌≢◌, ◌⊎◌, ℕ, ⊤, List, None, Some, codes, Result, Ok, Err}
use Rattle.ov_io.specs.Refusal.{refusal_text}
use Rattle.ov_arguments.specs.Arguments.{command_given, number_of, text_given}
use Rattle.ov_arguments.specs.declared.arguments.ArgumentsFault.TheVariants.{BadArguments, OutOfMemory}
use Rattle.ov_arguments.specs.declared.arguments.Request.{Request}
use Rattle.ov_arguments.specs.declared.arguments.Request.TheVariants.{Analyse}
use Rattle.ov_commands.specs.Statuses.{IsAlarmStatus}
use Rattle.ov_commands.specs.Faults.{command_fault_text}
use Rattle.ov_grow_commands.specs.GrowFaults.{growth_number}
use Rattle.ov_grow_commands.specs.declared.grow_command_fault.GrowCommandFault.TheVariants as growth
use Rattle.overlay.specs.declared.fault_and_exit_status.OverlayFault.{OverlayFault}
use Rattle.overlay.specs.declared.fault_and_exit_status.OverlayFault.TheVariants.{Arguments, Command, Growth}

-- what is printed of a fault on standard error, without its line feed
abbrev pub program_fault_text : OverlayFault → List ℕ
program_fault_text (Arguments fault) = refusal_text (number_of fault)
program_fault_text (Command fault) = command_fault_text fault
program_fault_text (Growth fault) = refusal_text (growth_number fault)

-- the fault is one of what was asked for, and not of the arguments
abbrev pub IsOfRequest : OverlayFault → Type 0
IsOfRequest (Command fault) = ⊤
IsOfRequest other = ⊥

-- a status with which what is asked for may end that had no fault: of an analysis 0, or 3 too if a least number is
-- asked for; else 0
abbrev pub IsStatusOf : Request → ℕ → Type 0
IsStatusOf (Analyse file analysis) status = IsAlarmStatus analysis.at_least status
IsStatusOf other status = status ≡ 0

-- a status with which these arguments may end that had no fault: 0, and of `analyse` with `--at-least` 3 too
abbrev pub IsStatusGiven : List (List ℕ) → ℕ → Type 0
IsStatusGiven arguments status =
    (status ≡ 0)
    ⊎ ((status ≡ 3) × (command_given arguments ≡ Some (codes "analyse"))
    × (text_given arguments (codes "at-least") ≢ None))

-- the program's status: that of the run or the analysis, 2 if the arguments are refused, and 1 after another fault
abbrev pub exit_status : Result ℕ OverlayFault → ℕ
exit_status (Ok status) = status
exit_status (Err (Arguments BadArguments)) = 2
exit_status (Err (Arguments OutOfMemory)) = 1
exit_status (Err (Command fault)) = 1
exit_status (Err (Growth growth.Arguments)) = 2
exit_status (Err (Growth (growth.Growing fault))) = 1
exit_status (Err (Growth growth.Row)) = 1
exit_status (Err (Growth growth.Read)) = 1
exit_status (Err (Growth growth.Write)) = 1
exit_status (Err (Growth growth.OutOfMemory)) = 1
