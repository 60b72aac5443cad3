-- What a run of a judge does: it reads a certificate file, up to a newest version, and prints the line of its outcome.
use Rattle.std.specs.Prelude.{◌≡◌, ◌≢◌, ◌+◌, ℕ, List, Option, IfSome, Result, Ok, Err, IfOk}
use Rattle.std.specs.Io.KnownBytes.{Appends, IsAtEnd}
use Rattle.ov_io.specs.Device.{SourceState, SinkState, read_faults, write_faults, ReaderFailed}
use Rattle.ov_io.specs.Device.{AppendsPrefixOf}
use Rattle.ov_certfile.specs.declared.version.Version.{Version}
use Rattle.ov_check.specs.declared.read_judge_and_print_outcome.Judged.{Judged}
use Rattle.ov_check.specs.declared.outcome_of_file_bytes.Outcome.{Outcome}
use Rattle.ov_check.specs.declared.read_or_write_fault.JudgeFault.{JudgeFault}
use Rattle.ov_check.specs.declared.read_or_write_fault.JudgeFault.TheVariants.{Read, Write, OutOfMemory}
use Rattle.ov_check.specs.Faults.{number_of}
use Rattle.ov_check.specs.Line.{printed_of}
use Rattle.ov_check.specs.Outcome.{IsOutcome, SaysExactNumber, status_of}

-- the bytes that were read have this outcome; `reader` are the bytes that the reader had, if they are known
pub record Judgement (newest : Version) (reader : Option (List ℕ)) (outcome : Outcome) : Type 0 where
  pub bytes : List ℕ
  pub read : IfSome reader (λ xs. bytes ≡ xs)
  pub comes_to : IsOutcome newest bytes outcome

-- The line of the outcome was appended to what the writer holds. The status is that of the outcome, and if it is 0, the
-- number of the file is exact.
pub record Prints (newest : Version) (reader before after : Option (List ℕ)) (status : ℕ) : Type 0 where
  pub outcome : Outcome
  pub judgement : Judgement newest reader outcome
  pub line : Appends before after (printed_of outcome)
  pub answer : status ≡ status_of outcome
  pub exact : status ≡ 0 → SaysExactNumber newest judgement.bytes

-- a prefix of the line of the outcome was appended to what the writer holds
pub record PrintsPrefix (newest : Version) (reader before after : Option (List ℕ)) : Type 0 where
  pub outcome : Outcome
  pub judgement : Judgement newest reader outcome
  pub prefix : AppendsPrefixOf (printed_of outcome) before after

-- A run, from a source and a sink to what they are after it. `remaining` are the bytes that a reader still has, and
-- `contents` those that a writer holds, if they are known. Read is returned only if the reader failed in this run, and
-- Write only if the writer did. After Read and OutOfMemory nothing was written, and after Write a prefix of the line
-- was. After Ok and Write the reader is at its end.
pub record IsRun {R W : Type 0} (newest : Version) (remaining : R → Option (List ℕ))
    (contents : W → Option (List ℕ)) (source : SourceState R) (sink : SinkState W) (source_after : SourceState R)
    (sink_after : SinkState W)
    (result : Result ℕ JudgeFault) : Type 0 where
  pub prints : IfOk result
      (Prints newest (remaining source.reader) (contents sink.writer) (contents sink_after.writer))
  pub prefix : result ≡ Err Write
      → PrintsPrefix newest (remaining source.reader) (contents sink.writer) (contents sink_after.writer)
  pub read_to_end : result ≢ Err Read → result ≢ Err OutOfMemory → IsAtEnd (remaining source_after.reader)
  pub reads : source_after.faults ≡ source.faults + read_faults number_of result
  pub writes : sink_after.faults ≡ sink.faults + write_faults number_of result
  pub failed : result ≡ Err Read → ReaderFailed source source_after
  pub not_failed : result ≢ Err Read → source_after.failures ≡ source.failures
  pub unread : result ≡ Err Read → sink_after ≡ sink
  pub no_memory : result ≡ Err OutOfMemory → sink_after ≡ sink

-- the status of the outcome that is returned, or why there is none
abbrev pub status_in : Result Judged JudgeFault → Result ℕ JudgeFault
status_in (Ok judged) = Ok (status_of judged.outcome)
status_in (Err fault) = Err fault
