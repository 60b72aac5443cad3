-- A run of a judge that came to the line of its outcome.
use Rattle.std.proofs.Common.{◌≡◌, ◌≢◌, ◌+◌, ◌∙◌, ℕ, List, Option, IfSome, IfOk, OnOk, IsErrOf, Result, Ok, Err}
use Rattle.std.proofs.Common.{refl, sym, ap, subst}
use Rattle.std.specs.Io.KnownBytes.{Appends, IsAtEnd}
use Rattle.ov_io.specs.Device.{SourceState, SinkState, read_faults, write_faults, AppendsPrefixOf}
use Rattle.ov_certfile.specs.declared.version.Version.{Version}
use Rattle.ov_check.specs.declared.outcome_of_file_bytes.Outcome.{Outcome}
use Rattle.ov_check.specs.declared.read_or_write_fault.JudgeFault.{JudgeFault}
use Rattle.ov_check.specs.declared.read_or_write_fault.JudgeFault.TheVariants.{Read, Write, OutOfMemory}
use Rattle.ov_check.specs.Faults.{number_of}
use Rattle.ov_check.specs.Line.{printed_of}
use Rattle.ov_check.specs.Outcome.{IsOutcome, SaysExactNumber, status_of}
use Rattle.ov_check.specs.Run.{Judgement, Prints, IsRun}

-- the outcome is that of the bytes that were read, and is exact
pub record IsRead (newest : Version) (reader : Option (List ℕ)) (bytes : List ℕ) (o : Outcome) : Type 0 where
  pub all : IfSome reader (λ xs. bytes ≡ xs)
  pub comes_to : IsOutcome newest bytes o
  pub exact : status_of o ≡ 0 → SaysExactNumber newest bytes

-- the bytes are those that were judged
pub read_so : (newest : Version) (reader : Option (List ℕ)) (judged bytes : List ℕ) (o : Outcome) → judged ≡ bytes
    → IfSome reader (λ xs. bytes ≡ xs) → IsOutcome newest judged o
    → (status_of o ≡ 0 → SaysExactNumber newest judged) → IsRead newest reader bytes o
read_so newest reader judged bytes o same all comes exact = record {
  all = all;
  comes_to = subst (λ (xs : List ℕ). IsOutcome newest xs o) same comes;
  exact = λ zero. subst (SaysExactNumber newest) same (exact zero);
}

-- what a call that writes the line of an outcome returns, and does to the sink
pub record IsWritten {W : Type 0} (contents : W → Option (List ℕ)) (o : Outcome) (sink sink' : SinkState W)
    (result : Result ℕ JudgeFault) : Type 0 where
  pub line : IfOk result (λ status. Appends (contents sink.writer) (contents sink'.writer) (printed_of o))
  pub status : IfOk result (λ status. status ≡ status_of o)
  pub prefix : result ≡ Err Write → AppendsPrefixOf (printed_of o) (contents sink.writer) (contents sink'.writer)
  pub faults : sink'.faults ≡ sink.faults + write_faults number_of result
  pub unread : result ≢ Err Read
  pub no_memory : result ≡ Err OutOfMemory → sink' ≡ sink

-- a result of this type that fails
abbrev pub failing : (A : Type 0) → JudgeFault → Result A JudgeFault
failing A f = Err f

-- a fault is the same one, whatever would have been returned without it
pub same_fault : (A B : Type 0) (f g : JudgeFault) → failing A f ≡ failing A g → failing B f ≡ failing B g
same_fault A B f g e = let same : f ≡ g = cc in ap (failing B) same

-- the status of the outcome, if its line was written, or the fault
abbrev pub with_status : Outcome → Result (Unit {0}) JudgeFault → Result ℕ JudgeFault
with_status o (Ok u) = Ok (status_of o)
with_status o (Err fault) = Err fault

module _ {R W : Type 0} (newest : Version) (remaining : R → Option (List ℕ)) (contents : W → Option (List ℕ))
    (source source' : SourceState R) (sink sink' : SinkState W) (bytes : List ℕ) (o : Outcome)
    (is : IsRead newest (remaining source.reader) bytes o) (end : IsAtEnd (remaining source'.reader))
    (faults : source'.faults ≡ source.faults + 0) (none : source'.failures ≡ source.failures) where
  abbrev the_judgement : Judgement newest (remaining source.reader) o
  the_judgement = record { bytes = bytes; read = is.all; comes_to = is.comes_to }

  printed : (result : Result ℕ JudgeFault) → IsWritten contents o sink sink' result
      → IfOk result (Prints newest (remaining source.reader) (contents sink.writer) (contents sink'.writer))
  printed (Ok status) w = record {
    outcome = o;
    judgement = the_judgement;
    line = w.line;
    answer = w.status;
    exact = λ e. is.exact (sym w.status ∙ e);
  }
  printed (Err fault) w = tt

  read : (result : Result ℕ JudgeFault) → result ≢ Err Read
      → source'.faults ≡ source.faults + read_faults number_of result
  read (Ok status) n = faults
  read (Err Read) n = absurd (n refl)
  read (Err Write) n = faults
  read (Err OutOfMemory) n = faults

  -- the line was written, or as much as the writer took
  pub written : (result : Result ℕ JudgeFault) → IsWritten contents o sink sink' result
      → IsRun newest remaining contents source sink source' sink' result
  written result w = record {
    prints = printed result w;
    prefix = λ e. record { outcome = o; judgement = the_judgement; prefix = w.prefix e };
    read_to_end = λ r m. end;
    reads = read result w.unread;
    writes = w.faults;
    failed = λ e. absurd (w.unread e);
    not_failed = λ r. none;
    unread = λ e. absurd (w.unread e);
    no_memory = w.no_memory;
  }

  -- the call that wrote the line ended so, and the judge with it
  pub ended : (r : Result (Unit {0}) JudgeFault)
      → OnOk r (Appends (contents sink.writer) (contents sink'.writer) (printed_of o))
      → (IsErrOf r Write → AppendsPrefixOf (printed_of o) (contents sink.writer) (contents sink'.writer))
      → sink'.faults ≡ sink.faults + write_faults number_of r → r ≢ Err Read
      → (IsErrOf r OutOfMemory → sink' ≡ sink)
      → IsRun newest remaining contents source sink source' sink' (with_status o r)
  ended (Ok u) line prefix faults unread memory = written (Ok (status_of o)) (record {
    line = line;
    status = refl;
    prefix = λ e. absurd cc;
    faults = faults;
    unread = λ e. absurd cc;
    no_memory = λ e. absurd cc;
  })
  ended (Err fault) line prefix faults unread memory = written (Err fault) (record {
    line = tt;
    status = tt;
    prefix = λ e. prefix (same_fault ℕ (Unit {0}) fault Write e);
    faults = faults;
    unread = λ e. unread (same_fault ℕ (Unit {0}) fault Read e);
    no_memory = λ e. memory (same_fault ℕ (Unit {0}) fault OutOfMemory e);
  })
