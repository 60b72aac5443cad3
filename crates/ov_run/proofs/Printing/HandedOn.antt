-- What lines printed if they stopped by a fault; and it stays what they printed if the writer hands it on, and if it
-- fails to.
use Rattle.std.proofs.Common.{◌≡◌, ◌∙◌, ◌+◌, inl, inr, ℕ, List, Option, Some, None, Result, Ok, Err, IsErrAnd, refl}
use Rattle.std.proofs.Common.{sym, ap, subst, arith}
use Rattle.std.specs.Io.KnownBytes.{Keeps}
use Rattle.ov_io.specs.Device.{SinkState}
use Rattle.ov_snap.specs.CoreState.{CoreState}
use Rattle.ov_scenario.specs.declared.scenario.Line.{Line}
use Rattle.ov_run_meaning.specs.Ending.{BeginsLines, EndsLines}
use Rattle.ov_run_meaning.specs.Faults.{write_faults}
use Rattle.ov_run_meaning.specs.Strict.{StopsLines}
use Rattle.ov_run.specs.Code.Outcomes.{RanLines}
use Rattle.ov_run_meaning.specs.Writing.{IsOfWriting, Writes, WritesPrefix}
use Rattle.ov_run_meaning.specs.declared.refusal.Refusal.{Refusal}
use Rattle.ov_run_meaning.specs.declared.run_fault.RunFault.{RunFault}
use Rattle.ov_run_meaning.specs.declared.run_fault.RunFault.TheVariants.{Write, Refused, OutOfMemory}
use Rattle.ov_run_meaning.specs.declared.strictness.Strictness.{Strictness}
use Rattle.ov_run_meaning.specs.declared.strictness.Strictness.TheVariants.{Strict}
use Rattle.ov_run_meaning.proofs.Writing.Prefixes.{appended_kept, err_of, failed_by, prefix_kept}

-- a fault of writing is none of a refused line
not_refused : (f : RunFault) (n : ℕ) (refusal : Refusal) → IsOfWriting f → ¬ (f ≡ Refused n refusal)
not_refused f n refusal (inl is) same = let clash = sym is ∙ same in absurd cc
not_refused f n refusal (inr is) same = let clash = sym is ∙ same in absurd cc

-- the refused line at which a run ended
abbrev pub refused_in_err : {A : Type 0} → Result A RunFault → Option (ℕ × Refusal)
refused_in_err (Err (Refused n refusal)) = Some (n, refusal)
refused_in_err other = None

-- this holds of it
abbrev pub holds_of : (ℕ → Refusal → Type 0) → Option (ℕ × Refusal) → Type 0
holds_of P None = ⊥
holds_of P (Some found) = P found.0 found.1

module _ {A W : Type 0} (strictness : Strictness) (contents : W → Option (List ℕ)) (b : CoreState) (lines : List Line)
    (asked : List (ℕ × List ℕ)) (before after : SinkState W) where
  -- it stopped by this fault
  pub stopped_by :
      (result : Result A RunFault) (f : RunFault) → IsErrAnd result (λ e. e ≡ f)
      → WritesPrefix (BeginsLines strictness b lines) (contents before.writer) (contents after.writer) → IsOfWriting f
      → after.faults ≡ before.faults + write_faults {A = A} (Err f)
      → (f ≡ OutOfMemory → Writes (EndsLines strictness b lines) (contents before.writer) (contents after.writer))
      → RanLines strictness contents b lines asked before after result
  stopped_by result f is begun kind counted ended =
      subst (RanLines strictness contents b lines asked before after) (sym (failed_by result f is)) (record {
        prints = tt;
        accepts = λ strict. tt;
        begun = begun;
        memory = λ e. ended (sym (err_of (λ g. g ≡ f) (Err f) OutOfMemory refl e));
        stops = λ n refusal e.
            absurd (not_refused f n refusal kind (sym (err_of (λ g. g ≡ f) (Err f) (Refused n refusal) refl e)));
        faults = counted;
        kind = inl kind;
      })

  -- it stopped at a refused line
  pub stopped_at :
      (n : ℕ) (refusal : Refusal) → strictness ≡ Strict
      → Writes (StopsLines b lines asked n refusal) (contents before.writer) (contents after.writer)
      → WritesPrefix (BeginsLines strictness b lines) (contents before.writer) (contents after.writer)
      → after.faults ≡ before.faults + 0
      → RanLines {A = A} strictness contents b lines asked before after (Err (Refused n refusal))
  stopped_at n refusal strict stops begun counted = record {
    prints = tt;
    accepts = λ strict. tt;
    begun = begun;
    memory = λ e. absurd cc;
    stops = λ m why e. (
      strict,
      subst (holds_of (λ k r. Writes (StopsLines b lines asked k r) (contents before.writer) (contents after.writer)))
          (ap refused_in_err e) stops,
    );
    faults = counted;
    kind = inr (n, refusal, refl);
  }

module _ {A W : Type 0} (strictness : Strictness) (contents : W → Option (List ℕ)) (b : CoreState) (lines : List Line)
    (asked : List (ℕ × List ℕ)) (before mid after : SinkState W)
    (kept : Keeps (contents mid.writer) (contents after.writer)) where
  -- it handed on what it took
  pub handed_on :
      (result : Result A RunFault) → after.faults ≡ mid.faults + 0
      → RanLines strictness contents b lines asked before mid result
      → RanLines strictness contents b lines asked before after result
  handed_on (Ok a) counted ran = record {
    prints = (ran.prints.0, (ran.prints.1.0, ran.prints.1.1, appended_kept _ _ _ _ ran.prints.1.2 kept));
    accepts = λ strict. let own = ran.accepts strict in
        (own.0, (own.1.0, own.1.1, appended_kept _ _ _ _ own.1.2 kept));
    begun = (ran.begun.0, ran.begun.1, prefix_kept _ _ _ _ ran.begun.2 kept);
    memory = λ e. absurd cc;
    stops = λ n refusal e. absurd cc;
    faults = let faults = ran.faults in omega (arith, counted, faults);
    kind = tt;
  }
  handed_on (Err f) counted ran = record {
    prints = tt;
    accepts = λ strict. tt;
    begun = (ran.begun.0, ran.begun.1, prefix_kept _ _ _ _ ran.begun.2 kept);
    memory = λ e. let ended = ran.memory e in (ended.0, ended.1, appended_kept _ _ _ _ ended.2 kept);
    stops = λ n refusal e. let own = ran.stops n refusal e in
        (own.0, (own.1.0, own.1.1, appended_kept _ _ _ _ own.1.2 kept));
    faults = let faults = ran.faults in omega (arith, counted, faults);
    kind = ran.kind;
  }

  -- it failed to, and had not failed before
  pub failed_to :
      (result : Result A RunFault) → mid.faults ≡ before.faults + 0 → after.faults ≡ mid.faults + 1
      → RanLines strictness contents b lines asked before mid result
      → RanLines {A = A} strictness contents b lines asked before after (Err Write)
  failed_to result none counted ran = record {
    prints = tt;
    accepts = λ strict. tt;
    begun = (ran.begun.0, ran.begun.1, prefix_kept _ _ _ _ ran.begun.2 kept);
    memory = λ e. absurd cc;
    stops = λ n refusal e. absurd cc;
    faults = omega (arith, none, counted);
    kind = inl (inl refl);
  }
