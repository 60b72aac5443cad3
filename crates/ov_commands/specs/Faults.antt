-- The faults of commands.
use Rattle.std.specs.Prelude.{ℕ, List}
use Rattle.ov_graphfile.specs.Groups as group
use Rattle.ov_io.specs.Refusal.{refusal_text}
use Rattle.ov_run_meaning.specs.Faults.{run_fault_text}
use Rattle.ov_commands.specs.declared.command_fault.CommandFault.{CommandFault}
use Rattle.ov_commands.specs.declared.command_fault.CommandFault.TheVariants.{Group, OfFile, Run}
use Rattle.ov_commands.specs.declared.conversion_fault.ConversionFault.{ConversionFault}
use Rattle.ov_commands.specs.declared.conversion_fault.ConversionFault.TheVariants.{Refused, Write, OutOfMemory}

-- the number of a fault of a command that turns one file into another: that of what was refused, or one of those that
-- are chosen for all programs
abbrev pub command_number : ConversionFault → ℕ
command_number (Refused number) = number
command_number Write = 72
command_number OutOfMemory = 99

-- what is printed of a fault on standard error, without its line feed
abbrev pub command_fault_text : CommandFault → List ℕ
command_fault_text (Run fault) = run_fault_text fault
command_fault_text (Group fault) = refusal_text (group.number_of fault)
command_fault_text (OfFile fault) = refusal_text (command_number fault)
