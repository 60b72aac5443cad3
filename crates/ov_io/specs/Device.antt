-- What a source and a sink are, the bytes that go through them, and the failures that are counted.
use Rattle.std.specs.Prelude.{◌≡◌, ◌⊎◌, ◌++◌, ◌+◌, ◌-◌, ◌^◌, ◌==◌, if◌then◌else◌, min, ℕ, List, Option, Result, Ok, Err}
use Rattle.std.specs.Io.KnownBytes.{append_known, Appends, Keeps}
use Rattle.ov_io.specs.declared.fault.ReadFault.{ReadFault}
use Rattle.ov_io.specs.declared.fault.ReadFault.TheVariants.{Read, OutOfMemory}
use Rattle.ov_io.specs.declared.fault.WriteFault.{WriteFault}

-- no count of faults goes beyond this
abbrev pub most_faults : ℕ
most_faults = 2 ^ 64 - 1

-- the counts of reads and of ends stop here: a reader that answers a read in each nanosecond comes here after 584 years
abbrev pub most_counted : ℕ
most_counted = 2 ^ 64 - 1

-- a reader that has not ended after this many reads of one call counts as failed (chosen here)
abbrev pub most_reads : ℕ
most_reads = 2 ^ 32 - 1

-- A source: its reader, how many reads it was asked for, how many of these failed, how many were answered by the end,
-- and how many faults it counts. A fault is a read that failed, or a call that reached the most reads.
pub record SourceState (R : Type 0) : Type 0 where
  pub reader : R
  pub reads : ℕ
  pub failures : ℕ
  pub ends : ℕ
  pub faults : ℕ

-- A sink: its writer, and how many faults it counts. A fault is a write that failed or took nothing, or a flush that
-- failed.
pub record SinkState (W : Type 0) : Type 0 where
  pub writer : W
  pub faults : ℕ

-- the number of the fault of a reader that failed: chosen here
abbrev pub read_failed : ℕ
read_failed = 71

-- the number of the fault of a writer that failed: chosen here
abbrev pub write_failed : ℕ
write_failed = 72

-- the number of each fault of a reader
abbrev pub read_number : ReadFault → ℕ
read_number Read = read_failed
read_number OutOfMemory = 99

-- the number of the fault of a writer
abbrev pub write_number : WriteFault → ℕ
write_number fault = write_failed

-- how many faults of one number a call counts: it ends with the first
abbrev pub faults_numbered : {A E : Type 0} → ℕ → (E → ℕ) → Result A E → ℕ
faults_numbered counted number (Ok a) = 0
faults_numbered counted number (Err e) = if number e == counted then 1 else 0

-- how many faults a call adds to those of its reader
abbrev pub read_faults : {A E : Type 0} → (E → ℕ) → Result A E → ℕ
read_faults number result = faults_numbered read_failed number result

-- how many faults a call adds to those of its writer
abbrev pub write_faults : {A E : Type 0} → (E → ℕ) → Result A E → ℕ
write_faults number result = faults_numbered write_failed number result

-- one read of a call failed
abbrev pub OneReadFailed : {R : Type 0} → SourceState R → SourceState R → Type 0
OneReadFailed before after = after.failures ≡ before.failures + 1

-- no read of a call failed, none was answered by the end, and it reached the most reads
abbrev pub DidNotEnd : {R : Type 0} → SourceState R → SourceState R → Type 0
DidNotEnd before after =
    (after.failures ≡ before.failures)
    × (after.ends ≡ before.ends)
    × (after.reads ≡ min (before.reads + most_reads) most_counted)

-- the reader failed in a call: exactly one read failed, or the reader did not end
abbrev pub ReaderFailed : {R : Type 0} → SourceState R → SourceState R → Type 0
ReaderFailed before after = OneReadFailed before after ⊎ DidNotEnd before after

-- what the writer took is a prefix of these bytes: all, some or none
abbrev pub AppendsPrefixOf : List ℕ → Option (List ℕ) → Option (List ℕ) → Type 0
AppendsPrefixOf bytes before after =
    (prefix rest : List ℕ) × Appends before after prefix × (prefix ++ rest ≡ bytes)

-- what a writer holds is a prefix of these bytes, if they are known: all, some or none
abbrev pub HoldsPrefixOf : Option (List ℕ) → Option (List ℕ) → Type 0
HoldsPrefixOf bytes held = (rest : List ℕ) × Keeps bytes (append_known held rest)
