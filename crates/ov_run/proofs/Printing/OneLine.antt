-- One line that ran: what became of it, with the core after it.
use Rattle.std.proofs.Common.{◌≡◌, ◌⊎◌, ◌+◌, inl, inr, ℕ, List, [], ◌∷◌, Option, Result, Ok, Err}
use Rattle.std.proofs.Common.{IsErrAnd, refl, sym, subst}
use Rattle.std.proofs.KnownBytes.{Appends-nil}
use Rattle.std.specs.Io.KnownBytes.{Appends, Keeps}
use Rattle.ov_io.specs.Device.{SinkState}
use Rattle.ov_net.specs.declared.event.Event.{Event}
use Rattle.ov_net.specs.declared.journal_entry_and_changes.Entry.{Entry}
use Rattle.ov_snap.specs.CoreState.{CoreState}
use Rattle.ov_snap.specs.Run.{Happened}
use Rattle.ov_scenario.specs.Sections.{SectionLine}
use Rattle.ov_scenario.specs.declared.scenario.Line.{Line}
use Rattle.ov_scenario.specs.declared.scenario.Line.TheVariants as line
use Rattle.ov_scenario.specs.declared.scenario.Look.{Look}
use Rattle.ov_run_meaning.specs.Accepting.{DoesEvent, RefusesLook, ShowsLook}
use Rattle.ov_run_meaning.specs.Ending.{BeginsLines, BeginsLook, EndsLine}
use Rattle.ov_run_meaning.specs.Faults.{write_faults}
use Rattle.ov_run.specs.Code.Outcomes.{LineCame, LineRan, RanAsBlock}
use Rattle.ov_run_meaning.specs.Writing.{IsOfWriting, Writes, WritesOutcome, WritesPrefix}
use Rattle.ov_run.specs.declared.line_outcome.BlockTold.{BlockTold}
use Rattle.ov_run.specs.declared.line_outcome.Came.{Came}
use Rattle.ov_run.specs.declared.line_outcome.Came.TheVariants.{Alone, Block}
use Rattle.ov_run_meaning.specs.declared.line_run_outcome.LineOutcome.{LineOutcome}
use Rattle.ov_run_meaning.specs.declared.line_run_outcome.LineOutcome.TheVariants.{Accepted, Refused}
use Rattle.ov_run_meaning.specs.declared.run_fault.RunFault.{RunFault}
use Rattle.ov_run_meaning.specs.declared.run_fault.RunFault.TheVariants.{Write, OutOfMemory}
use Rattle.ov_run_meaning.specs.declared.strictness.Strictness.TheVariants.{Strict}
use Rattle.ov_run_meaning.proofs.Writing.Prefixes.{err_of, failed_by, kept_appended, kept_prefix, none_went}
use Rattle.ov_run.proofs.Printing.Ending.{nothing, whole}

-- what became of a line, and the core after it
abbrev pub LineDone : Type 0
LineDone = Came × CoreState

module _ {W : Type 0} (contents : W → Option (List ℕ)) (b : CoreState) (line : Line) where
  abbrev pub RanWith : SinkState W → SinkState W → Result LineDone RunFault → Type 0
  RanWith before after result =
      LineRan contents b line (λ (r : LineDone). r.0) (λ (r : LineDone). r.1) before after result

  -- this became of it
  pub ran_as : (before after : SinkState W) (came : Came) (u : CoreState)
      → LineCame b line u (contents before.writer) (contents after.writer) came
      → after.faults ≡ before.faults + 0 → RanWith before after (Ok (came, u))
  ran_as before after came u is counted =
      record { came = is; begun = tt; memory = λ e. absurd cc; faults = counted; kind = tt }

  -- it ended the run by this fault
  pub ended_by : (before after : SinkState W) (result : Result LineDone RunFault) (f : RunFault)
      → IsErrAnd result (λ e. e ≡ f)
      → WritesPrefix (BeginsLines Strict b (line ∷ [])) (contents before.writer) (contents after.writer)
      → (f ≡ OutOfMemory → Writes (EndsLine b line) (contents before.writer) (contents after.writer))
      → after.faults ≡ before.faults + write_faults {A = LineDone} (Err f) → IsOfWriting f
      → RanWith before after result
  ended_by before after result f is begun memory counted kind =
      subst (RanWith before after) (sym (failed_by result f is)) (record {
        came = tt;
        begun = begun;
        memory = λ e. memory (sym (err_of (λ g. g ≡ f) (Err f) OutOfMemory refl e));
        faults = counted;
        kind = kind;
      })

  -- the writer failed
  pub at_a_write : (before after : SinkState W) (result : Result LineDone RunFault) → IsErrAnd result (λ e. e ≡ Write)
      → WritesPrefix (BeginsLines Strict b (line ∷ [])) (contents before.writer) (contents after.writer)
      → after.faults ≡ before.faults + 1 → RanWith before after result
  at_a_write before after result is begun counted =
      ended_by before after result Write is begun (λ e. absurd cc) counted (inl refl)

  -- it failed to hand on what it took before the line
  pub not_handed_on : (before after : SinkState W) (result : Result LineDone RunFault)
      → IsErrAnd result (λ e. e ≡ Write) → Keeps (contents before.writer) (contents after.writer)
      → after.faults ≡ before.faults + 1 → RanWith before after result
  not_handed_on before after result is kept counted =
      at_a_write before after result is
      ([], nothing Strict b (line ∷ []), kept_prefix _ _ _ [] kept (none_went _ [])) counted

-- a look that was written whole, or refused
pub look_came :
    (b : CoreState) (look : Look) (a c : Option (List ℕ)) (o : LineOutcome)
    → WritesOutcome (ShowsLook b look) (RefusesLook b look) a c o → LineCame b (line.Look look) b a c (Alone o)
look_came b look a c Accepted (text, shows, went) = (text, (refl, shows), went)
look_came b look a c (Refused refusal) (refuses, went) = ((refuses, refl), went)

-- a look that was written up to some point, or whole
pub look_begun :
    (b : CoreState) (look : Look) (a c : Option (List ℕ))
    → WritesPrefix (λ text. BeginsLook b look text ⊎ ShowsLook b look text) a c
    → WritesPrefix (BeginsLines Strict b (line.Look look ∷ [])) a c
look_begun b look a c (text, inl begins, went) = (text, inl begins, went)
look_begun b look a c (text, inr shows, went) =
    (text, whole Strict b (line.Look look) b text (refl, shows), went)

-- a block whose sections ran, after what the writer took was handed on
pub block_came :
    (b u : CoreState) (line : Line) (block : BlockTold) (a c : Option (List ℕ)) → Keeps a c → RanAsBlock b line u block
    → LineCame b line u a c (Block block)
block_came b u line block a c kept ran = (ran, kept_appended a c c [] kept (Appends-nil c))

module _ {W : Type 0} (contents : W → Option (List ℕ)) (b : CoreState) (before after : SinkState W)
    (result : Result LineDone RunFault) where
  -- an event happened, and its line was not written whole
  pub event_ended : (event : Event) (words : List ℕ) (u : CoreState) (f : RunFault) → IsErrAnd result (λ e. e ≡ f)
      → WritesPrefix (DoesEvent b event words u) (contents before.writer) (contents after.writer)
      → (f ≡ OutOfMemory → (e : Entry) × Happened b event words e u) → (f ≡ OutOfMemory → after ≡ before)
      → after.faults ≡ before.faults + write_faults {A = LineDone} (Err f) → IsOfWriting f
      → RanWith contents b (line.Event event words) before after result
  event_ended event words u f is (text, does, went) happened same counted kind =
      ended_by contents b (line.Event event words) before after result f is
      (text, whole Strict b (line.Event event words) u text does, went)
      (λ m. (
        [],
        (((happened m).0, u, (happened m).1), refl),
        subst (λ (s : SinkState W). Appends (contents before.writer) (contents s.writer) []) (sym (same m))
            (Appends-nil _),
      )) counted kind

  -- a block ran out of memory, after what the writer took was handed on
  pub block_ended : (sections : List (List SectionLine)) → IsErrAnd result (λ e. e ≡ OutOfMemory)
      → Keeps (contents before.writer) (contents after.writer) → after.faults ≡ before.faults + 0
      → RanWith contents b (line.Together sections) before after result
  block_ended sections is kept counted =
      ended_by contents b (line.Together sections) before after result OutOfMemory is
      ([], nothing Strict b (line.Together sections ∷ []), kept_prefix _ _ _ [] kept (none_went _ []))
      (λ m. ([], refl, kept_appended _ _ _ [] kept (Appends-nil _))) counted (inr refl)
