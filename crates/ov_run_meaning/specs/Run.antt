-- What a run of a scenario does: it reads a scenario, and writes what the scenario prints.
use Rattle.std.specs.Prelude.{◌≡◌, ◌≢◌, ◌⊎◌, ◌+◌, ℕ, List, Option, Result, Err, IfOk, IfErr, OnOk, IsErrOf}
use Rattle.std.specs.Io.Buffered.{writer_inner}
use Rattle.std.specs.declared.io.buffered.BufWriter.{BufWriter}
use Rattle.ov_io.specs.Device.{SourceState, SinkState, ReaderFailed}
use Rattle.ov_run_meaning.specs.Ending.{Begins, Ends, HoldsBegun}
use Rattle.ov_run_meaning.specs.Faults.{read_faults, write_faults, IsOfReading, IsRunFault}
use Rattle.ov_run_meaning.specs.Running.{PrintsScenario}
use Rattle.ov_run_meaning.specs.Strict.{AcceptsScenario, StopsScenario}
use Rattle.ov_run_meaning.specs.declared.refusal.Refusal.{Refusal}
use Rattle.ov_run_meaning.specs.declared.run_fault.RunFault.{RunFault}
use Rattle.ov_run_meaning.specs.declared.run_fault.RunFault.TheVariants.{Read, Write, Refused, OutOfMemory}
use Rattle.ov_run_meaning.specs.declared.strictness.Strictness.{Strictness}
use Rattle.ov_run_meaning.specs.declared.strictness.Strictness.TheVariants.{Strict}

-- A run of the scenario of a reader that had these bytes, if they are known, from a sink before it to what it is after
-- it. `contents` are the bytes that a writer holds, if they are known. A run may be strict.
pub record IsRunOf {W : Type 0} (strictness : Strictness) (reader : Option (List ℕ)) (contents : W → Option (List ℕ))
    (sink_before sink_after : SinkState W) (result : Result ℕ RunFault) : Type 0 where
  -- without fault, status 0 is returned
  pub status : IfOk result (λ status. status ≡ 0)
  -- without fault, the writer took what the scenario prints after what it held, and nothing else
  pub prints : OnOk result (PrintsScenario reader (contents sink_before.writer) (contents sink_after.writer))
  -- however it ends, the sink is as before, or the writer took a prefix of what the scenario prints up to some point;
  -- of a strict run each line before it was accepted
  pub begun : (sink_after ≡ sink_before)
      ⊎ Begins strictness reader (contents sink_before.writer) (contents sink_after.writer)
  -- after Write the sink counts one more fault, otherwise the same number as before
  pub sink : sink_after.faults ≡ sink_before.faults + write_faults result
  -- a fault of a line is that of the first line at fault, and no fault is one of a graph
  pub fault : IfErr result (IsRunFault reader)
  -- after a fault of reading, Line, Params or Read, the sink is as before
  pub unread : IfErr result (λ fault. IsOfReading fault → sink_after ≡ sink_before)
  -- after OutOfMemory the sink is as before, or the writer took all that the scenario prints up to the point at which
  -- the run ends out of memory; of a strict run each line before it was accepted
  pub memory : IsErrOf result OutOfMemory
      → (sink_after ≡ sink_before) ⊎ Ends strictness reader (contents sink_before.writer) (contents sink_after.writer)
  -- without fault, no line was refused if the run is strict
  pub accepts : strictness ≡ Strict
      → OnOk result (AcceptsScenario reader (contents sink_before.writer) (contents sink_after.writer))
  -- Refused is returned only if the run is strict: line n is the first that was refused, for this reason, and the
  -- writer took what the lines before it print, and nothing else
  pub stops : (n : ℕ) (refusal : Refusal) → IsErrOf result (Refused n refusal)
      → (strictness ≡ Strict)
      × StopsScenario reader n refusal (contents sink_before.writer) (contents sink_after.writer)

-- A run, from a source and a sink before it to what they are after it. `remaining` are the bytes that a reader still
-- has, if they are known.
pub record IsRun {R W : Type 0} (strictness : Strictness) (remaining : R → Option (List ℕ))
    (contents : W → Option (List ℕ)) (source_before : SourceState R) (sink_before : SinkState W)
    (source_after : SourceState R) (sink_after : SinkState W) (result : Result ℕ RunFault) : Type 0 where
  -- it is a run of the scenario of the source's reader
  pub run : IsRunOf strictness (remaining source_before.reader) contents sink_before sink_after result
  -- after Read the source counts one more fault, otherwise the same number as before
  pub source : source_after.faults ≡ source_before.faults + read_faults result
  -- Read is returned only if the reader failed in this run
  pub failed : IsErrOf result Read → ReaderFailed source_before source_after
  -- after anything but Read no read of this run failed
  pub not_failed : result ≢ Err Read → source_after.failures ≡ source_before.failures

-- the sink whose writer stands behind a buffer, which is empty
abbrev pub behind_buffer : {W A : Type 0} → SinkState (BufWriter W A) → SinkState W
behind_buffer sink = record { writer = writer_inner sink.writer; faults = sink.faults }

-- A run that printed in blocks: through a buffer, which was empty before, into the writer behind it, which has its own
-- sink after the run. What is promised is promised of this writer, so of bytes that no buffer keeps back.
pub record IsRunInBlocks {W A : Type 0} (strictness : Strictness) (reader : Option (List ℕ))
    (contents : W → Option (List ℕ)) (sink_before : SinkState (BufWriter W A)) (sink_after : SinkState W)
    (result : Result ℕ RunFault) : Type 0 where
  -- after anything but Write it is a run into this writer
  pub run : result ≢ Err Write → IsRunOf strictness reader contents (behind_buffer sink_before) sink_after result
  -- after Write the writer holds a prefix of what it held before with, behind it, what the scenario prints up to some
  -- point; of a strict run each line before it was accepted
  pub begun : result ≡ Err Write
      → HoldsBegun strictness reader (contents (writer_inner sink_before.writer)) (contents sink_after.writer)
  -- after Write the sink counts one more fault, otherwise the same number as before
  pub sink : sink_after.faults ≡ sink_before.faults + write_faults result
