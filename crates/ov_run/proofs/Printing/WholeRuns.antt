-- A run that read its scenario: all its lines ran, or it ended while one of them did.
use Rattle.std.proofs.Common.{◌≡◌, ◌+◌, inl, inr, List, ℕ, Option, Some, Result, Ok, Err, IsErrAnd, refl, sym, subst}
use Rattle.std.proofs.Common.{ap, arith}
use Rattle.ov_io.specs.Device.{SinkState}
use Rattle.ov_run_meaning.specs.Ending.{Begins, Ends}
use Rattle.ov_run_meaning.specs.Faults.{write_faults}
use Rattle.ov_run_meaning.specs.Run.{IsRunOf}
use Rattle.ov_run_meaning.specs.Running.{PrintsScenario}
use Rattle.ov_run_meaning.specs.Strict.{AcceptsScenario, StopsScenario}
use Rattle.ov_run.specs.Code.Failing.{IsOfRunning, IsBeforeLines}
use Rattle.ov_run_meaning.specs.declared.refusal.Refusal.{Refusal}
use Rattle.ov_run_meaning.specs.declared.run_fault.RunFault.{RunFault}
use Rattle.ov_run_meaning.specs.declared.run_fault.RunFault.TheVariants as fault
use Rattle.ov_run_meaning.specs.declared.run_fault.RunFault.TheVariants.{Write, Refused, OutOfMemory}
use Rattle.ov_run_meaning.specs.declared.strictness.Strictness.{Strictness}
use Rattle.ov_run_meaning.specs.declared.strictness.Strictness.TheVariants.{Strict}
use Rattle.ov_run_meaning.proofs.Writing.Prefixes.{err_of, failed_by}
use Rattle.ov_run.proofs.Printing.HandedOn.{holds_of, refused_in_err}

-- how many failures of its writer a run counts that ends by this fault
abbrev counted_of : RunFault → ℕ
counted_of f = write_faults {A = ℕ} (Err f)

module _ {W : Type 0} (strictness : Strictness) (bytes : List ℕ) (contents : W → Option (List ℕ))
    (sink sink' : SinkState W) where
  -- all its lines ran
  pub finished : PrintsScenario (Some bytes) (contents sink.writer) (contents sink'.writer)
      → Begins strictness (Some bytes) (contents sink.writer) (contents sink'.writer)
      → (strictness ≡ Strict → AcceptsScenario (Some bytes) (contents sink.writer) (contents sink'.writer))
      → sink'.faults ≡ sink.faults + 0 → IsRunOf strictness (Some bytes) contents sink sink' (Ok 0)
  finished prints begun accepts writes = record {
    status = refl;
    prints = prints;
    accepts = accepts;
    stops = λ n refusal e. absurd cc;
    begun = inr begun;
    sink = writes;
    fault = tt;
    unread = tt;
    memory = λ e. absurd cc;
  }

  at_a_write : Begins strictness (Some bytes) (contents sink.writer) (contents sink'.writer)
      → sink'.faults ≡ sink.faults + 1 → IsRunOf strictness (Some bytes) contents sink sink' (Err Write)
  at_a_write begun writes = record {
    status = tt;
    prints = tt;
    accepts = λ strict. tt;
    stops = λ n refusal e. absurd cc;
    begun = inr begun;
    sink = writes;
    fault = tt;
    unread = λ reading. absurd reading;
    memory = λ e. absurd cc;
  }

  without_memory : Begins strictness (Some bytes) (contents sink.writer) (contents sink'.writer)
      → sink'.faults ≡ sink.faults + 0
      → Ends strictness (Some bytes) (contents sink.writer) (contents sink'.writer)
      → IsRunOf strictness (Some bytes) contents sink sink' (Err OutOfMemory)
  without_memory begun writes ended = record {
    status = tt;
    prints = tt;
    accepts = λ strict. tt;
    stops = λ n refusal e. absurd cc;
    begun = inr begun;
    sink = writes;
    fault = tt;
    unread = λ reading. absurd reading;
    memory = λ e. inr ended;
  }

  -- at a refused line
  at_a_refusal : Begins strictness (Some bytes) (contents sink.writer) (contents sink'.writer)
      → sink'.faults ≡ sink.faults + 0
      → (n : ℕ) (refusal : Refusal) → strictness ≡ Strict
      → StopsScenario (Some bytes) n refusal (contents sink.writer) (contents sink'.writer)
      → IsRunOf strictness (Some bytes) contents sink sink' (Err (Refused n refusal))
  at_a_refusal begun writes n refusal strict stopped = record {
    status = tt;
    prints = tt;
    accepts = λ strict. tt;
    stops = λ m why e. (
      strict,
      subst (holds_of (λ k r. StopsScenario (Some bytes) k r (contents sink.writer) (contents sink'.writer)))
          (ap refused_in_err e) stopped,
    );
    begun = inr begun;
    sink = writes;
    fault = tt;
    unread = λ reading. absurd reading;
    memory = λ e. absurd cc;
  }

  abbrev StopsBy : RunFault → Type 0
  StopsBy f = (n : ℕ) (refusal : Refusal) → f ≡ Refused n refusal
      → (strictness ≡ Strict) × StopsScenario (Some bytes) n refusal (contents sink.writer) (contents sink'.writer)

  ended_by : (f : RunFault) → Begins strictness (Some bytes) (contents sink.writer) (contents sink'.writer)
      → IsOfRunning f → sink'.faults ≡ sink.faults + counted_of f
      → (f ≡ OutOfMemory → Ends strictness (Some bytes) (contents sink.writer) (contents sink'.writer))
      → StopsBy f → IsRunOf strictness (Some bytes) contents sink sink' (Err f)
  ended_by f begun (inl (inl is)) writes ended stopped =
      subst (λ (g : RunFault). IsRunOf strictness (Some bytes) contents sink sink' (Err g)) (sym is)
      (at_a_write begun (subst (λ (g : RunFault). sink'.faults ≡ sink.faults + counted_of g) is writes))
  ended_by f begun (inl (inr is)) writes ended stopped =
      subst (λ (g : RunFault). IsRunOf strictness (Some bytes) contents sink sink' (Err g)) (sym is)
      (without_memory begun (subst (λ (g : RunFault). sink'.faults ≡ sink.faults + counted_of g) is writes) (ended is))
  ended_by f begun (inr (n, refusal, is)) writes ended stopped =
      let own = stopped n refusal is in
      subst (λ (g : RunFault). IsRunOf strictness (Some bytes) contents sink sink' (Err g)) (sym is)
      (at_a_refusal begun (subst (λ (g : RunFault). sink'.faults ≡ sink.faults + counted_of g) is writes) n refusal
      own.0 own.1)

  -- the fault of the line at which it ended is its own
  pub stopped : (result : Result ℕ RunFault) (f : RunFault) → IsErrAnd result (λ e. e ≡ f)
      → Begins strictness (Some bytes) (contents sink.writer) (contents sink'.writer) → IsOfRunning f
      → sink'.faults ≡ sink.faults + counted_of f
      → (f ≡ OutOfMemory → Ends strictness (Some bytes) (contents sink.writer) (contents sink'.writer))
      → StopsBy f → IsRunOf strictness (Some bytes) contents sink sink' result
  stopped result f is begun kind writes ended at =
      subst (IsRunOf strictness (Some bytes) contents sink sink') (sym (failed_by result f is))
      (ended_by f begun kind writes ended at)

-- it ended before any line ran
pub refused :
    {W : Type 0} (strictness : Strictness) (bytes : List ℕ) (contents : W → Option (List ℕ)) (sink : SinkState W)
    (f : RunFault) → IsBeforeLines bytes f → IsRunOf strictness (Some bytes) contents sink sink (Err f)
refused strictness bytes contents sink f before = record {
  status = tt;
  prints = tt;
  accepts = λ strict. tt;
  stops = λ n refusal e.
      absurd (before.not_refused n refusal (sym (err_of (λ g. g ≡ f) (Err f) (Refused n refusal) refl e)));
  begun = inl refl;
  sink = unwritten f sink.faults before.not_written;
  fault = before.fault;
  unread = λ reading. refl;
  memory = λ e. inl refl;
} where
  same : (m : ℕ) → m ≡ m + 0
  same m = omega arith

  unwritten : (f : RunFault) (n : ℕ) → ¬ (f ≡ Write) → n ≡ n + counted_of f
  unwritten (fault.Line n) m not = same m
  unwritten (fault.Params n) m not = same m
  unwritten (fault.Graph g line) m not = same m
  unwritten fault.Read m not = same m
  unwritten fault.Write m not = absurd (not refl)
  unwritten (fault.Refused n refusal) m not = same m
  unwritten fault.OutOfMemory m not = same m

-- it had no room for a hall
pub without_room :
    {W : Type 0} (strictness : Strictness) (bytes : List ℕ) (contents : W → Option (List ℕ)) (sink : SinkState W)
    (result : Result ℕ RunFault) → IsErrAnd result (λ e. e ≡ OutOfMemory)
    → IsRunOf strictness (Some bytes) contents sink sink result
without_room strictness bytes contents sink result is =
    subst (IsRunOf strictness (Some bytes) contents sink sink) (sym (failed_by result OutOfMemory is))
    (refused strictness bytes contents sink OutOfMemory (record {
      fault = tt;
      not_written = λ e. absurd cc;
      not_read = λ e. absurd cc;
      not_refused = λ n refusal e. absurd cc;
    }))
