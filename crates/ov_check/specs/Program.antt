-- What a program that judges certificate files decides: its input, what it prints of a fault, and its status.
use Rattle.std.specs.Prelude.{◌≡◌, ◌≢◌, ℕ, List, ◌++◌, codes, IsUtf8, Option, Some, None, Result, Ok, Err}
use Rattle.ov_io.specs.Name.{unread_text}
use Rattle.ov_io.specs.Refusal.{refusal_text}
use Rattle.ov_check.specs.declared.read_or_write_fault.JudgeFault.{JudgeFault}
use Rattle.ov_check.specs.declared.read_or_write_fault.JudgeFault.TheVariants.{Read, Write, OutOfMemory}
use Rattle.ov_check.specs.declared.arguments_and_exit_status.ProgramFault.{ProgramFault}
use Rattle.ov_check.specs.declared.arguments_and_exit_status.ProgramFault.TheVariants.{Usage, Judge}
use Rattle.ov_check.specs.Faults.{number_of}

-- The input that one argument names. `bytes` gives the bytes of a name. `-` is standard input, each other text is the
-- name of a file, and what is not text names nothing that can be read.
abbrev pub NamesInput : {Text : Type 0} → (Text → List ℕ) → List ℕ → Result (Option Text) ProgramFault → Type 0
NamesInput bytes argument (Ok None) = argument ≡ codes "-"
NamesInput bytes argument (Ok (Some name)) = (bytes name ≡ argument) × (argument ≢ codes "-")
NamesInput bytes argument (Err fault) = (fault ≡ Judge Read) × (¬ IsUtf8 argument)

-- the line on standard error of a program of this name, without its line feed
abbrev pub fault_line : List ℕ → ProgramFault → List ℕ
fault_line program Usage = codes "usage: " ++ (program ++ codes " [FILE]")
fault_line program (Judge fault) = refusal_text (number_of fault)

-- what is printed below that line if the arguments name no input
abbrev pub no_input_text : ProgramFault → List ℕ
no_input_text Usage = codes "more than one file is named"
no_input_text (Judge fault) = codes "the name of the file is no UTF-8 text, or is longer than 4096 bytes"

-- what is printed below that line if the judge failed. These are the characters of the name of its input
abbrev pub failure_text : List ℕ → JudgeFault → List ℕ
failure_text cs Read = unread_text cs
failure_text cs Write = codes "writing failed"
failure_text cs OutOfMemory = codes "out of memory"

-- the program's status: that of the judge, 2 if there are too many arguments, and 1 after a fault
abbrev pub exit_status : Result ℕ ProgramFault → ℕ
exit_status (Ok status) = status
exit_status (Err Usage) = 2
exit_status (Err (Judge fault)) = 1
