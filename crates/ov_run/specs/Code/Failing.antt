-- How the parts of a run fail.
use Rattle.std.specs.Prelude.{◌≡◌, ◌⊎◌, ℕ, Bool, true, false, List, Some, Result, Err}
use Rattle.ov_run_meaning.specs.Faults.{IsRunFault}
use Rattle.ov_run_meaning.specs.Writing.{IsOfWriting}
use Rattle.ov_run_meaning.specs.declared.refusal.Refusal.{Refusal}
use Rattle.ov_run_meaning.specs.declared.run_fault.RunFault.{RunFault}
use Rattle.ov_run_meaning.specs.declared.run_fault.RunFault.TheVariants.{Read, Write, Refused}

-- the writer failed
abbrev pub is_write : {A : Type 0} → Result A RunFault → Bool
is_write (Err Write) = true
is_write other = false

-- the writer failed, an allocation was refused, or a line was refused
abbrev pub IsOfRunning : RunFault → Type 0
IsOfRunning fault = IsOfWriting fault ⊎ ((n : ℕ) × (refusal : Refusal) × (fault ≡ Refused n refusal))

-- a run that returns this fault before any line ran: the file's fault, or out of memory
pub record IsBeforeLines (bytes : List ℕ) (f : RunFault) : Type 0 where
  pub fault : IsRunFault (Some bytes) f
  pub not_written : ¬ (f ≡ Write)
  pub not_read : ¬ (f ≡ Read)
  pub not_refused : (n : ℕ) (refusal : Refusal) → ¬ (f ≡ Refused n refusal)
