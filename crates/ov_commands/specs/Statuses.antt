-- With which status the program ends after what a command did.
use Rattle.std.specs.Prelude.{◌≡◌, ◌⊎◌, ℕ, nat_lt, List, Option, Some, None, Result, Ok, Err, if◌then◌else◌, IfSome}
use Rattle.ov_answers.specs.declared.report_or_refusal.ReportOrRefusal.{ReportOrRefusal}
use Rattle.ov_answers.specs.declared.report_or_refusal.ReportOrRefusal.TheVariants.{Report, NoNodes, BadGroup}
use Rattle.ov_run_meaning.specs.declared.run_fault.RunFault.{RunFault}
use Rattle.ov_run_meaning.specs.declared.run_fault.RunFault.TheVariants.{Read, OutOfMemory}
use Rattle.ov_commands.specs.declared.command_fault.CommandFault.{CommandFault}
use Rattle.ov_commands.specs.declared.command_fault.CommandFault.TheVariants.{OfFile, Run}
use Rattle.ov_commands.specs.declared.conversion_fault.ConversionFault.{ConversionFault}

-- what the program returns after a command that turns one file into another: status 0, or the fault of the command
abbrev pub command_status : Result (Unit {0}) ConversionFault → Result ℕ CommandFault
command_status (Ok done) = Ok 0
command_status (Err fault) = Err (OfFile fault)

-- this is what the program returns after such a command that did so
abbrev pub HasDone : (Result (Unit {0}) ConversionFault → Type 0) → Result ℕ CommandFault → Type 0
HasDone Does result = (done : Result (Unit {0}) ConversionFault) × Does done × (result ≡ command_status done)

-- the status of an analysis that had no fault. If a least number is asked for, it is 3 where the answer's number k is
-- below that, and where there is no answer, since the analysis is refused; otherwise it is 0
abbrev pub alarm_status : Option ℕ → ReportOrRefusal → ℕ
alarm_status None answered = 0
alarm_status (Some least) (Report k) = if nat_lt k least then 3 else 0
alarm_status (Some least) NoNodes = 3
alarm_status (Some least) BadGroup = 3

-- a status with which an analysis may end that had no fault: 0, or 3 too if a least number is asked for
abbrev pub IsAlarmStatus : Option ℕ → ℕ → Type 0
IsAlarmStatus None status = status ≡ 0
IsAlarmStatus (Some least) status = (status ≡ 0) ⊎ (status ≡ 3)

-- what the program returns after an analysis, if this least number is asked for: the status, or its fault
abbrev pub analysis_status : Option ℕ → Result ReportOrRefusal RunFault → Result ℕ CommandFault
analysis_status least (Ok answered) = Ok (alarm_status least answered)
analysis_status least (Err fault) = Err (Run fault)

-- this is what the program returns after an analysis that came to this
abbrev pub HasAnalysed : Option ℕ → (Result ReportOrRefusal RunFault → Type 0) → Result ℕ CommandFault → Type 0
HasAnalysed least Gives result =
    (answer : Result ReportOrRefusal RunFault) × Gives answer × (result ≡ analysis_status least answer)

-- A command read all bytes of a reader, which are these if they are known, and did so with them, from what there was to
-- what there is then. Or it did nothing, since the reader failed or memory ran out.
abbrev pub HasRead : {S : Type 0} → Option (List ℕ) → S → S → (List ℕ → Result ℕ CommandFault → Type 0)
    → Result ℕ CommandFault → Type 0
HasRead reader old new Does result =
    ((bytes : List ℕ) × IfSome reader (λ xs. bytes ≡ xs) × Does bytes result)
    ⊎ (((result ≡ Err (Run Read)) ⊎ (result ≡ Err (Run OutOfMemory))) × (new ≡ old))
