-- What is said of a run of the bytes that were read is said of one of the reader that had them. `read` are these bytes
-- as they were lent.
use Rattle.std.proofs.Common.{◌≡◌, ◌⊎◌, inl, inr, ◌∙◌, ℕ, List, Option, Some, IfSome, Result, Ok, Err, subst}
use Rattle.std.specs.declared.io.buffered.BufWriter.{BufWriter}
use Rattle.ov_io.specs.Device.{SinkState}
use Rattle.ov_run_meaning.specs.Ending.{IsBegun, Begins, IsEnded, Ends}
use Rattle.ov_run_meaning.specs.Faults.{IsScenarioFileFault, IsRunFault}
use Rattle.ov_run_meaning.specs.Run.{IsRunInBlocks, IsRunOf, behind_buffer}
use Rattle.ov_run_meaning.specs.Running.{IsOutput, PrintsScenario}
use Rattle.ov_run_meaning.specs.Strict.{AcceptsScenario, IsAcceptedScenario, IsStoppedScenario, StopsScenario}
use Rattle.ov_run_meaning.specs.declared.refusal.Refusal.{Refusal}
use Rattle.ov_run_meaning.specs.declared.strictness.Strictness.{Strictness}
use Rattle.ov_run_meaning.specs.declared.run_fault.RunFault.{RunFault}
use Rattle.ov_run_meaning.specs.declared.run_fault.RunFault.TheVariants as fault
use Rattle.ov_run_meaning.proofs.OfReader.{told}

-- what it prints
pub scenario_prints :
    (reader before after : Option (List ℕ)) (bytes read : List ℕ) → IfSome reader (λ xs. bytes ≡ xs) → read ≡ bytes
    → PrintsScenario (Some read) before after → PrintsScenario reader before after
scenario_prints reader before after bytes read had same (own, text, is, output, went) =
    (bytes, text, had, subst (λ bs. IsOutput bs text) (is ∙ same) output, went)

-- what it begins to print, if anything
pub scenario_begins :
    {W : Type 0} (strictness : Strictness) (sink sink_after : SinkState W) (reader before after : Option (List ℕ))
    (bytes read : List ℕ)
    → IfSome reader (λ xs. bytes ≡ xs) → read ≡ bytes
    → (sink_after ≡ sink) ⊎ Begins strictness (Some read) before after
    → (sink_after ≡ sink) ⊎ Begins strictness reader before after
scenario_begins strictness sink sink_after reader before after bytes read had same (inl unchanged) = inl unchanged
scenario_begins strictness sink sink_after reader before after bytes read had same (inr (own, text, is, begun, went)) =
    inr (bytes, text, had, subst (λ bs. IsBegun strictness bs text) (is ∙ same) begun, went)

-- what it prints before it ends out of memory
pub scenario_ends :
    {W : Type 0} (strictness : Strictness) (sink sink_after : SinkState W) (reader before after : Option (List ℕ))
    (bytes read : List ℕ)
    → IfSome reader (λ xs. bytes ≡ xs) → read ≡ bytes
    → (sink_after ≡ sink) ⊎ Ends strictness (Some read) before after
    → (sink_after ≡ sink) ⊎ Ends strictness reader before after
scenario_ends strictness sink sink_after reader before after bytes read had same (inl unchanged) = inl unchanged
scenario_ends strictness sink sink_after reader before after bytes read had same (inr (own, text, is, ended, went)) =
    inr (bytes, text, had, subst (λ bs. IsEnded strictness bs text) (is ∙ same) ended, went)

-- the fault of its run
pub run_fault :
    (reader : Option (List ℕ)) (bytes read : List ℕ) (f : RunFault) → IfSome reader (λ xs. bytes ≡ xs) → read ≡ bytes
    → IsRunFault (Some read) f → IsRunFault reader f
run_fault reader bytes read (fault.Line n) had same is =
    told (λ bs. IsScenarioFileFault bs (fault.Line n)) reader bytes read had same is
run_fault reader bytes read (fault.Params n) had same is =
    told (λ bs. IsScenarioFileFault bs (fault.Params n)) reader bytes read had same is
run_fault reader bytes read (fault.Graph f line) had same is = is
run_fault reader bytes read fault.Read had same is = tt
run_fault reader bytes read fault.Write had same is = tt
run_fault reader bytes read (fault.Refused n refusal) had same is = tt
run_fault reader bytes read fault.OutOfMemory had same is = tt

-- that each of its lines is accepted
scenario_accepts :
    (reader before after : Option (List ℕ)) (bytes read : List ℕ) → IfSome reader (λ xs. bytes ≡ xs) → read ≡ bytes
    → AcceptsScenario (Some read) before after → AcceptsScenario reader before after
scenario_accepts reader before after bytes read had same (own, text, is, accepted, went) =
    (bytes, text, had, subst (λ bs. IsAcceptedScenario bs text) (is ∙ same) accepted, went)

-- the refused line at which it ends
scenario_stops :
    (reader before after : Option (List ℕ)) (bytes read : List ℕ) (n : ℕ) (refusal : Refusal)
    → IfSome reader (λ xs. bytes ≡ xs) → read ≡ bytes
    → StopsScenario (Some read) n refusal before after → StopsScenario reader n refusal before after
scenario_stops reader before after bytes read n refusal had same (own, text, is, stopped, went) =
    (bytes, text, had, subst (λ bs. IsStoppedScenario bs n refusal text) (is ∙ same) stopped, went)

-- its run
pub run_of_reader :
    {W : Type 0} (strictness : Strictness) (contents : W → Option (List ℕ)) (sink sink' : SinkState W)
    (reader : Option (List ℕ)) (bytes read : List ℕ) (result : Result ℕ RunFault)
    → IfSome reader (λ xs. bytes ≡ xs) → read ≡ bytes → IsRunOf strictness (Some read) contents sink sink' result
    → IsRunOf strictness reader contents sink sink' result
run_of_reader strictness contents sink sink' reader bytes read (Ok status) had same ran = record {
  status = ran.status;
  prints = scenario_prints _ _ _ bytes read had same ran.prints;
  begun = scenario_begins strictness sink sink' _ _ _ bytes read had same ran.begun;
  sink = ran.sink;
  fault = tt;
  unread = tt;
  memory = λ e. absurd cc;
  accepts = λ strict. scenario_accepts _ _ _ bytes read had same (ran.accepts strict);
  stops = λ n refusal e. absurd cc;
}
run_of_reader strictness contents sink sink' reader bytes read (Err f) had same ran = record {
  status = tt;
  prints = tt;
  begun = scenario_begins strictness sink sink' _ _ _ bytes read had same ran.begun;
  sink = ran.sink;
  fault = run_fault _ bytes read f had same ran.fault;
  unread = ran.unread;
  memory = λ e. scenario_ends strictness sink sink' _ _ _ bytes read had same (ran.memory e);
  accepts = λ strict. tt;
  stops = λ n refusal e. let own = ran.stops n refusal e in
      (own.0, scenario_stops _ _ _ bytes read n refusal had same own.1);
}

-- its run in blocks
pub run_in_blocks_of_reader :
    {W A : Type 0} (strictness : Strictness) (contents : W → Option (List ℕ)) (sink : SinkState (BufWriter W A))
    (sink' : SinkState W) (reader : Option (List ℕ)) (bytes read : List ℕ) (result : Result ℕ RunFault)
    → IfSome reader (λ xs. bytes ≡ xs) → read ≡ bytes → IsRunInBlocks strictness (Some read) contents sink sink' result
    → IsRunInBlocks strictness reader contents sink sink' result
run_in_blocks_of_reader strictness contents sink sink' reader bytes read result had same ran = record {
  run = λ other. run_of_reader strictness contents (behind_buffer sink) sink' reader bytes read result had same
      (ran.run other);
  begun = λ write. let own = ran.begun write in
      (bytes, own.1, had, subst (λ bs. IsBegun strictness bs own.1) (own.2 ∙ same) own.3, own.4);
  sink = ran.sink;
}
