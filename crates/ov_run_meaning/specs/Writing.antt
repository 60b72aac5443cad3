-- What goes to the writer of a line that runs, and how writing it fails.
use Rattle.std.specs.Prelude.{◌≡◌, ◌⊎◌, ℕ, List, [], Option}
use Rattle.std.specs.Io.KnownBytes.{Appends}
use Rattle.ov_io.specs.Device.{AppendsPrefixOf}
use Rattle.ov_run_meaning.specs.declared.line_run_outcome.LineOutcome.{LineOutcome}
use Rattle.ov_run_meaning.specs.declared.line_run_outcome.LineOutcome.TheVariants.{Accepted, Refused}
use Rattle.ov_run_meaning.specs.declared.refusal.Refusal.{Refusal}
use Rattle.ov_run_meaning.specs.declared.run_fault.RunFault.{RunFault}
use Rattle.ov_run_meaning.specs.declared.run_fault.RunFault.TheVariants.{Write, OutOfMemory}

-- the writer took a whole text of this kind
abbrev pub Writes : (List ℕ → Type 0) → Option (List ℕ) → Option (List ℕ) → Type 0
Writes IsText before after = (text : List ℕ) × IsText text × Appends before after text

-- the writer took a prefix of a text of this kind
abbrev pub WritesPrefix : (List ℕ → Type 0) → Option (List ℕ) → Option (List ℕ) → Type 0
WritesPrefix IsText before after = (text : List ℕ) × IsText text × AppendsPrefixOf text before after

-- the writer took what is printed of a line that was done; or the line was refused, and the writer took nothing
abbrev pub WritesOutcome :
    (List ℕ → Type 0) → (Refusal → Type 0) → Option (List ℕ) → Option (List ℕ) → LineOutcome → Type 0
WritesOutcome IsDone IsRefused before after Accepted = Writes IsDone before after
WritesOutcome IsDone IsRefused before after (Refused refusal) = IsRefused refusal × Appends before after []

-- the writer failed, or an allocation was refused
abbrev pub IsOfWriting : RunFault → Type 0
IsOfWriting fault = (fault ≡ Write) ⊎ (fault ≡ OutOfMemory)
