-- A run that printed in blocks: what went through the buffer is what went to the writer behind it, or a prefix of it.
use Rattle.std.proofs.Common.{◌≡◌, ◌≢◌, ◌⊎◌, ◌∙◌, ◌+◌, ◌++◌, inl, inr, ℕ, List, [], Option, Some, None, Result, Ok, Err}
use Rattle.std.proofs.Common.{true, false}
use Rattle.std.proofs.Common.{refl, sym, ap, subst, append_assoc, arith}
use Rattle.std.proofs.lemmas.List.{append-nil}
use Rattle.std.specs.Io.Buffered.{writer_buffer, writer_contents, writer_inner}
use Rattle.std.proofs.KnownBytes.{Keeps-refl}
use Rattle.std.specs.Io.KnownBytes.{append_known, Appends, Keeps}
use Rattle.std.specs.declared.io.buffered.BufWriter.{BufWriter}
use Rattle.ov_io.specs.Device.{AppendsPrefixOf, HoldsPrefixOf, SinkState}
use Rattle.ov_run_meaning.specs.Ending.{Begins, Ends, HoldsBegun}
use Rattle.ov_run_meaning.specs.Faults.{write_faults}
use Rattle.ov_run_meaning.specs.Run.{IsRunInBlocks, IsRunOf, behind_buffer}
use Rattle.ov_run_meaning.specs.Running.{PrintsScenario}
use Rattle.ov_run_meaning.specs.Strict.{AcceptsScenario, StopsScenario}
use Rattle.ov_run.specs.Code.Failing.{is_write}
use Rattle.ov_run_meaning.specs.declared.refusal.Refusal.{Refusal}
use Rattle.ov_run_meaning.specs.declared.run_fault.RunFault.{RunFault}
use Rattle.ov_run_meaning.specs.declared.run_fault.RunFault.TheVariants as fault
use Rattle.ov_run_meaning.specs.declared.run_fault.RunFault.TheVariants.{Write}
use Rattle.ov_run_meaning.specs.declared.strictness.Strictness.{Strictness}
use Rattle.ov_run_meaning.proofs.Writing.Prefixes.{appended_kept, prefix_kept}

-- ---- whether the writer failed

pub write_failed : {A : Type 0} (result : Result A RunFault) → is_write result ≡ true → result ≡ Err Write
write_failed (Ok a) is = absurd cc
write_failed (Err (fault.Line n)) is = absurd cc
write_failed (Err (fault.Params n)) is = absurd cc
write_failed (Err (fault.Graph f line)) is = absurd cc
write_failed (Err fault.Read) is = absurd cc
write_failed (Err fault.Write) is = refl
write_failed (Err (fault.Refused n refusal)) is = absurd cc
write_failed (Err fault.OutOfMemory) is = absurd cc

pub no_write_failed : {A : Type 0} (result : Result A RunFault) → is_write result ≡ false → result ≢ Err Write
no_write_failed result is failed = let clash : true ≡ false = sym (ap is_write failed) ∙ is in absurd cc

-- ---- an empty buffer

nothing_more : (known : Option (List ℕ)) → append_known known [] ≡ known
nothing_more None = refl
nothing_more (Some xs) = ap Some (append-nil xs)

-- what is held through it is what the writer behind it holds
held : {W A : Type 0} (contents : W → Option (List ℕ)) (w : BufWriter W A) → writer_buffer w ≡ []
    → writer_contents contents w ≡ contents (writer_inner w)
held contents w empty =
    ap (λ kept. append_known (contents (writer_inner w)) kept) empty ∙ nothing_more (contents (writer_inner w))

-- ---- prefixes of what is held

-- what the writer behind a buffer holds is a prefix of what is held through it
inner_holds : {W A : Type 0} (contents : W → Option (List ℕ)) (w : BufWriter W A)
    → HoldsPrefixOf (writer_contents contents w) (contents (writer_inner w))
inner_holds contents w = (writer_buffer w, Keeps-refl (writer_contents contents w))

-- a prefix of a prefix
holds_prefix : (a b c : Option (List ℕ)) (text : List ℕ) → AppendsPrefixOf text a b → HoldsPrefixOf b c
    → HoldsPrefixOf (append_known a text) c
holds_prefix None b c text went holds = ([], tt)
holds_prefix (Some xs) None c text (prefix, more, went, is) holds = absurd went
holds_prefix (Some xs) (Some ys) None text went (rest, kept) = absurd kept
holds_prefix (Some xs) (Some ys) (Some zs) text (prefix, more, went, is) (rest, kept) = (
  rest ++ more,
  sym (append_assoc zs rest more) ∙ ap (λ l. l ++ more) (kept ∙ went) ∙ append_assoc xs prefix more
      ∙ ap (λ l. xs ++ l) is,
)

-- ---- a run

module _ {W A : Type 0} (strictness : Strictness) (reader : Option (List ℕ)) (contents : W → Option (List ℕ))
    (before mid : SinkState (BufWriter W A)) (after : SinkState W) (empty : writer_buffer before.writer ≡ []) where
  -- a run through the buffer
  abbrev pub RanThrough : Result ℕ RunFault → Type 0
  RanThrough result = IsRunOf strictness reader (writer_contents contents) before mid result

  abbrev pub RanInBlocks : Result ℕ RunFault → Type 0
  RanInBlocks result = IsRunInBlocks strictness reader contents before after result

  -- it ended while a write failed, or the last block did
  failed : Begins strictness reader (writer_contents contents before.writer) (writer_contents contents mid.writer)
      → HoldsPrefixOf (writer_contents contents mid.writer) (contents after.writer)
      → HoldsBegun strictness reader (contents (writer_inner before.writer)) (contents after.writer)
  failed (bytes, text, had, is, went) holds = (
    bytes,
    text,
    had,
    is,
    subst (λ held_before. HoldsPrefixOf (append_known held_before text) (contents after.writer))
        (held contents before.writer empty)
        (holds_prefix _ _ _ text went holds),
  )

  -- a write failed, and the buffer was taken away
  pub gave_up : (result : Result ℕ RunFault) → result ≡ Err Write → RanThrough result
      → after.writer ≡ writer_inner mid.writer → after.faults ≡ mid.faults → RanInBlocks result
  gave_up result is ran same counted = record {
    run = λ other. absurd (other is);
    begun = λ write. elim ran.begun [
      | inl unchanged ↦ absurd (not_more before.faults (counts unchanged))
      | inr begun ↦ failed begun (subst (λ w. HoldsPrefixOf (writer_contents contents mid.writer) (contents w))
          (sym same) (inner_holds contents mid.writer))
    ];
    sink = counted ∙ ran.sink;
  } where
    counts : mid ≡ before → before.faults ≡ before.faults + 1
    counts unchanged = ap (λ (s : SinkState (BufWriter W A)). s.faults) (sym unchanged) ∙ ran.sink
        ∙ ap (λ r. before.faults + write_faults r) is

    not_more : (n : ℕ) → ¬ (n ≡ n + 1)
    not_more n is = omega (arith, is)

  -- the last block failed, and no write before it did
  pub not_handed_on : (result : Result ℕ RunFault) → result ≢ Err Write → RanThrough result
      → HoldsPrefixOf (writer_contents contents mid.writer) (contents after.writer)
      → ¬ (writer_buffer mid.writer ≡ []) → after.faults ≡ mid.faults + 1 → RanInBlocks (Err Write)
  not_handed_on result other ran holds kept counted = record {
    run = λ not. absurd (not refl);
    begun = λ write. elim ran.begun [
      | inl unchanged ↦ absurd (kept (ap (λ (s : SinkState (BufWriter W A)). writer_buffer s.writer) unchanged ∙ empty))
      | inr begun ↦ failed begun holds
    ];
    sink = let none = no_write result other ran in omega (arith, counted, none);
  } where
    no_write : (r : Result ℕ RunFault) → r ≢ Err Write → RanThrough r → mid.faults ≡ before.faults
    no_write (Ok status) other ran = let none = ran.sink in omega (arith, none)
    no_write (Err (fault.Line n)) other ran = let none = ran.sink in omega (arith, none)
    no_write (Err (fault.Params n)) other ran = let none = ran.sink in omega (arith, none)
    no_write (Err (fault.Graph f line)) other ran = let none = ran.sink in omega (arith, none)
    no_write (Err fault.Read) other ran = let none = ran.sink in omega (arith, none)
    no_write (Err fault.Write) other ran = absurd (other refl)
    no_write (Err (fault.Refused n refusal)) other ran = let none = ran.sink in omega (arith, none)
    no_write (Err fault.OutOfMemory) other ran = let none = ran.sink in omega (arith, none)

  -- ---- the last block went out

  module _ (kept : Keeps (writer_contents contents mid.writer) (contents after.writer))
      (nothing : writer_buffer mid.writer ≡ [] → after.writer ≡ writer_inner mid.writer)
      (counted : after.faults ≡ mid.faults + 0) where
    -- if the run left its sink as it was, so did all
    unchanged : mid ≡ before → after ≡ behind_buffer before
    unchanged same =
        let w : after.writer ≡ writer_inner before.writer =
        nothing (ap (λ (s : SinkState (BufWriter W A)). writer_buffer s.writer) same ∙ empty)
        ∙ ap (λ (s : SinkState (BufWriter W A)). writer_inner s.writer) same in
        let was = ap (λ (s : SinkState (BufWriter W A)). s.faults) same in
        let f : after.faults ≡ before.faults = omega (arith, counted, was) in
        (λ i. record { writer = w i; faults = f i })

    -- from what is held through the buffer to what the writer behind it holds
    from_before : (P : Option (List ℕ) → Type 0) → P (writer_contents contents before.writer)
        → P (contents (writer_inner before.writer))
    from_before P is = subst P (held contents before.writer empty) is

    prints_on : PrintsScenario reader (writer_contents contents before.writer) (writer_contents contents mid.writer)
        → PrintsScenario reader (contents (writer_inner before.writer)) (contents after.writer)
    prints_on (bytes, text, had, is, went) = (
      bytes,
      text,
      had,
      is,
      from_before (λ b. Appends b (contents after.writer) text) (appended_kept _ _ _ text went kept),
    )

    accepts_on : AcceptsScenario reader (writer_contents contents before.writer) (writer_contents contents mid.writer)
        → AcceptsScenario reader (contents (writer_inner before.writer)) (contents after.writer)
    accepts_on (bytes, text, had, is, went) = (
      bytes,
      text,
      had,
      is,
      from_before (λ b. Appends b (contents after.writer) text) (appended_kept _ _ _ text went kept),
    )

    stops_on : (n : ℕ) (refusal : Refusal)
        → StopsScenario reader n refusal (writer_contents contents before.writer) (writer_contents contents mid.writer)
        → StopsScenario reader n refusal (contents (writer_inner before.writer)) (contents after.writer)
    stops_on n refusal (bytes, text, had, is, went) = (
      bytes,
      text,
      had,
      is,
      from_before (λ b. Appends b (contents after.writer) text) (appended_kept _ _ _ text went kept),
    )

    begins_on :
        (mid ≡ before) ⊎ Begins strictness reader (writer_contents contents before.writer)
        (writer_contents contents mid.writer)
        → (after ≡ behind_buffer before) ⊎ Begins strictness reader (contents (writer_inner before.writer))
        (contents after.writer)
    begins_on (inl same) = inl (unchanged same)
    begins_on (inr (bytes, text, had, is, went)) = inr (
      bytes,
      text,
      had,
      is,
      from_before (λ b. AppendsPrefixOf text b (contents after.writer)) (prefix_kept _ _ _ text went kept),
    )

    ends_on :
        (mid ≡ before) ⊎ Ends strictness reader (writer_contents contents before.writer)
        (writer_contents contents mid.writer)
        → (after ≡ behind_buffer before) ⊎ Ends strictness reader (contents (writer_inner before.writer))
        (contents after.writer)
    ends_on (inl same) = inl (unchanged same)
    ends_on (inr (bytes, text, had, is, went)) = inr (
      bytes,
      text,
      had,
      is,
      from_before (λ b. Appends b (contents after.writer) text) (appended_kept _ _ _ text went kept),
    )

    into_the_writer : (result : Result ℕ RunFault) → RanThrough result
        → IsRunOf strictness reader contents (behind_buffer before) after result
    into_the_writer (Ok status) ran = record {
      status = ran.status;
      prints = prints_on ran.prints;
      begun = begins_on ran.begun;
      sink = let own = ran.sink in omega (arith, counted, own);
      fault = tt;
      unread = tt;
      memory = λ e. absurd cc;
      accepts = λ strict. accepts_on (ran.accepts strict);
      stops = λ n refusal e. absurd cc;
    }
    into_the_writer (Err f) ran = record {
      status = tt;
      prints = tt;
      begun = begins_on ran.begun;
      sink = let own = ran.sink in omega (arith, counted, own);
      fault = ran.fault;
      unread = λ reading. unchanged (ran.unread reading);
      memory = λ e. ends_on (ran.memory e);
      accepts = λ strict. tt;
      stops = λ n refusal e. let own = ran.stops n refusal e in (own.0, stops_on n refusal own.1);
    }

    pub handed_on : (result : Result ℕ RunFault) → result ≢ Err Write → RanThrough result → RanInBlocks result
    handed_on result other ran = record {
      run = λ not. into_the_writer result ran;
      begun = λ write. absurd (other write);
      sink = let own = ran.sink in omega (arith, counted, own);
    }

-- the reader failed, or there was no memory for what it had, and the buffer was taken away
pub nothing_ran :
    {W A : Type 0} (strictness : Strictness) (reader : Option (List ℕ)) (contents : W → Option (List ℕ))
    (before : SinkState (BufWriter W A)) (after : SinkState W) (f : RunFault)
    → (f ≡ fault.Read) ⊎ (f ≡ fault.OutOfMemory) → after.writer ≡ writer_inner before.writer
    → after.faults ≡ before.faults → IsRunInBlocks strictness reader contents before after (Err f)
nothing_ran strictness reader contents before after f why same counted =
    ended why
  where
    untouched : after ≡ behind_buffer before
    untouched = λ i. record { writer = same i; faults = counted i }

    ended : (f ≡ fault.Read) ⊎ (f ≡ fault.OutOfMemory) → IsRunInBlocks strictness reader contents before after (Err f)
    ended (inl is) = subst (λ (g : RunFault). IsRunInBlocks strictness reader contents before after (Err g)) (sym is)
        (record {
          run = λ other. record {
            status = tt;
            prints = tt;
            begun = inl untouched;
            sink = omega (arith, counted);
            fault = tt;
            unread = λ reading. untouched;
            memory = λ e. absurd cc;
            accepts = λ strict. tt;
            stops = λ n refusal e. absurd cc;
          };
          begun = λ e. absurd cc;
          sink = omega (arith, counted);
        })
    ended (inr is) = subst (λ (g : RunFault). IsRunInBlocks strictness reader contents before after (Err g)) (sym is)
        (record {
          run = λ other. record {
            status = tt;
            prints = tt;
            begun = inl untouched;
            sink = omega (arith, counted);
            fault = tt;
            unread = λ reading. absurd reading;
            memory = λ e. inl untouched;
            accepts = λ strict. tt;
            stops = λ n refusal e. absurd cc;
          };
          begun = λ e. absurd cc;
          sink = omega (arith, counted);
        })
