-- What is said of the bytes that were read is said of the reader that had them. `read` are these bytes as they were
-- lent.
use Rattle.std.proofs.Common.{◌≡◌, ◌≢◌, ◌∙◌, ◌+◌, ℕ, List, Option, Some, None, IfSome, Result, Ok, Err, refl, subst}
use Rattle.ov_run_meaning.specs.Faults.{read_faults}
use Rattle.ov_run_meaning.specs.declared.run_fault.RunFault.{RunFault}
use Rattle.ov_run_meaning.specs.declared.run_fault.RunFault.TheVariants as fault

-- what is true of the bytes that were read is true of those that the reader had, if these are known
pub told :
    (P : List ℕ → Type 0) (reader : Option (List ℕ)) (bytes read : List ℕ) → IfSome reader (λ xs. bytes ≡ xs)
    → read ≡ bytes → P read → IfSome reader P
told P None bytes read had same is = tt
told P (Some xs) bytes read had same is = subst P (same ∙ had) is

-- a call that does not return Read counts no fault of its reader
pub no_read_fault :
    {A : Type 0} (result : Result A RunFault) → result ≢ Err fault.Read → (n m : ℕ) → n ≡ m + 0
    → n ≡ m + read_faults result
no_read_fault (Ok a) other n m reads = reads
no_read_fault (Err (fault.Line line)) other n m reads = reads
no_read_fault (Err (fault.Params line)) other n m reads = reads
no_read_fault (Err (fault.Graph f line)) other n m reads = reads
no_read_fault (Err fault.Read) other n m reads = absurd (other refl)
no_read_fault (Err fault.Write) other n m reads = reads
no_read_fault (Err (fault.Refused line refusal)) other n m reads = reads
no_read_fault (Err fault.OutOfMemory) other n m reads = reads
