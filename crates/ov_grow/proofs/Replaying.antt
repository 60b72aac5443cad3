-- A run of lines that were all accepted once: each is accepted again, or refused out of memory.
use Rattle.std.proofs.Common.{◌≡◌, ◌∙◌, ◌⊎◌, ℕ, List, [], ◌∷◌, ◌++◌, length, append_assoc, Option, Some, None}
use Rattle.std.proofs.Common.{inl, inr, refl, sym, ap, subst}
use Rattle.std.proofs.lemmas.Option.{none-some}
use Rattle.ov_ids.specs.FaultOrder.{HoldsThen, IsRefusedBy, Passed}
use Rattle.ov_ids.proofs.Stepping.{step_none, step_passes}
use Rattle.ov_net.specs.Journal.{AreLinks, Live}
use Rattle.ov_net.specs.Refusals as net
use Rattle.ov_net.specs.World.{WorldState}
use Rattle.ov_net.specs.declared.event.Event.{Event}
use Rattle.ov_net.specs.declared.fault.NetFault.{NetFault}
use Rattle.ov_net.specs.declared.fault.NetFault.TheVariants as net_fault
use Rattle.ov_net.specs.declared.journal_entry_and_changes.Entry.{Entry}
use Rattle.ov_net.proofs.Steps.Refusing.{refused_for_memory}
use Rattle.ov_snap.specs.CoreState.{CoreState, opening_core}
use Rattle.ov_snap.specs.ReportState.{ReportState}
use Rattle.ov_snap.specs.Refusals.{IsGroupAt, SomebodyLivedThen, number_of}
use Rattle.ov_snap.specs.Run.{Happened}
use Rattle.ov_snap.specs.Snapshots.{IsMoment}
use Rattle.ov_snap.specs.declared.refused_core_call.CoreFault.{CoreFault}
use Rattle.ov_snap.specs.declared.refused_core_call.CoreFault.TheVariants.{AlreadyFiled, BadGroup}
use Rattle.ov_snap.specs.declared.refused_core_call.CoreFault.TheVariants.{NoNodes, NoSuchMoment}
use Rattle.ov_snap.specs.declared.refused_core_call.CoreFault.TheVariants.{OutOfMemory}
use Rattle.ov_snap.proofs.Refusing.{lived_then}
use Rattle.ov_scenario.specs.Scenarios.{IsScenario}
use Rattle.ov_scenario.specs.declared.scenario.Line.{Line}
use Rattle.ov_scenario.specs.declared.scenario.Line.TheVariants as line
use Rattle.ov_scenario.specs.declared.scenario.Scenario.{Scenario}
use Rattle.ov_scenario.specs.declared.scenario.Subject.{Subject}
use Rattle.ov_scenario.proofs.Scenarios.OneScenario.{one_scenario}
use Rattle.ov_run_meaning.specs.Ending.{BeginsLine, BeginsLines}
use Rattle.ov_run_meaning.specs.Printed.{entry_line, refused_line}
use Rattle.ov_run_meaning.specs.Running.{PrintsLine, PrintsLines}
use Rattle.ov_run_meaning.specs.declared.strictness.Strictness.{Strictness}
use Rattle.ov_run_meaning.proofs.Accepted.{goes_on_prints}
use Rattle.ov_run_meaning.specs.Subjects.{AnalysisJudged, IsReported, SubjectThen, WasAnalysed, members_of}
use Rattle.ov_grow.specs.Alike.{AreAlikeCores}
use Rattle.ov_grow.specs.Replay.{AcceptsAll, AcceptsLine, MayBeAccepted, PrintsAccepted, PrintsAllAccepted}
use Rattle.ov_grow.specs.Replay.{Replays}
use Rattle.ov_grow.specs.Theorems.{DidSomeOfIt, DidTheSame, EveryRunRefusesNothing, RanOutOfMemory}
use Rattle.ov_grow.proofs.SameSteps.{alike_itself, other_side, same_analysis, same_event}

-- ---- what was accepted in one core is refused in a core that is like it for memory alone

refused_event : (b d : CoreState) (event : Event) (words : List ℕ) (e : Entry) (v : CoreState) (f : NetFault)
    → b.world ≡ d.world → Happened d event words e v
    → net.IsRefusal b.world.net (length b.world.journal) event f
    → net.MayHappen b.world.net (length b.world.journal) event × (f ≡ net_fault.OutOfMemory)
refused_event b d event words e v f same h refused =
    let may = subst (λ (w : WorldState). net.MayHappen w.net (length w.journal) event) (sym same) h.judged in
    (may, refused_for_memory b.world.net (length b.world.journal) event f may refused)

-- a judgement that begins with a subject passes in two cores with one world, if what stands behind does
subject_same : (b d : CoreState) (m : ℕ) (group : Option (List ℕ)) (After Later : Option CoreFault → Type 0)
    → d.world ≡ b.world → (After None → Later None) → SubjectThen d m group After None
    → SubjectThen b m group Later None
subject_same b d m None After Later same on h =
    let parts = lived_then d m After h in
    inl (
      subst (λ (w : WorldState). IsMoment w.journal m) same parts.0,
      inl (subst (λ (w : WorldState). (a : ℕ) × Live w.journal m a) same parts.1, on parts.2),
    )
subject_same b d m (Some ids) After Later same on h =
    let lived = lived_then d m (HoldsThen (IsGroupAt d m ids) BadGroup After) h in
    let group = step_none (IsGroupAt d m ids) BadGroup After lived.2 in
    inl (
      subst (λ (w : WorldState). IsMoment w.journal m) same lived.0,
      inl (
        subst (λ (w : WorldState). (a : ℕ) × Live w.journal m a) same lived.1,
        inl (at group.0, on group.1),
      ),
    )
  where
    at : IsGroupAt d m ids → IsGroupAt b m ids
    at (g, links, is) = (g, subst (λ (w : WorldState). AreLinks w.journal m g) same links, is)

-- a judgement that passes has no fault
passed_alone : (f : CoreFault) → ¬ Passed (Some f)
passed_alone f h = absurd (none-some f (sym h))

step_alone : (P : Type 0) (e f : CoreFault) (After : Option CoreFault → Type 0) → (After None → ¬ After (Some f))
    → HoldsThen P e After None → ¬ HoldsThen P e After (Some f)
step_alone P e f After rest none some =
    let p = step_none P e After none in rest p.1 (step_passes P e After (Some f) p.0 some)

lived_alone : (b : CoreState) (m : ℕ) (f : CoreFault) (After : Option CoreFault → Type 0)
    → (After None → ¬ After (Some f)) → SomebodyLivedThen b m After None → ¬ SomebodyLivedThen b m After (Some f)
lived_alone b m f After rest =
    let Lived : Type 0 = (a : ℕ) × Live b.world.journal m a in
    step_alone (IsMoment b.world.journal m) NoSuchMoment f (HoldsThen Lived NoNodes After)
    (step_alone Lived NoNodes f After rest)

subject_alone : (b : CoreState) (m : ℕ) (group : Option (List ℕ)) (f : CoreFault)
    (After : Option CoreFault → Type 0)
    → (After None → ¬ After (Some f)) → SubjectThen b m group After None → ¬ SubjectThen b m group After (Some f)
subject_alone b m None f After rest = lived_alone b m f After rest
subject_alone b m (Some ids) f After rest =
    lived_alone b m f (HoldsThen (IsGroupAt b m ids) BadGroup After)
    (step_alone (IsGroupAt b m ids) BadGroup f After rest)

-- what is not reported in one of two cores that are alike is not reported in the other
unreported : (b d : CoreState) (s : Subject) → AreAlikeCores b d → ¬ IsReported d s → ¬ IsReported b s
unreported b d s alike free reported =
    let found = other_side b.reports d.reports reported.0 alike.reports reported.1.filed in
    free (
      found.0,
      record {
        filed = found.1;
        moment = sym found.2.moment ∙ reported.1.moment;
        members = sym found.2.members ∙ reported.1.members ∙ ap (members_of s.group) found.2.graph;
      },
    )

refused_analysis : (b d : CoreState) (s : Subject) (r : ReportState) (v : CoreState) (f : CoreFault)
    → AreAlikeCores b d → WasAnalysed d s r v → IsRefusedBy OutOfMemory (AnalysisJudged b s) f
    → AnalysisJudged b s None × (f ≡ OutOfMemory)
refused_analysis b d s r v f alike was refused = (judged, memory refused) where
  Free : CoreState → Option CoreFault → Type 0
  Free x = HoldsThen (¬ IsReported x s) AlreadyFiled Passed

  free : Free d None → Free b None
  free h = inl (unreported b d s alike (step_none (¬ IsReported d s) AlreadyFiled Passed h).0, refl)

  judged : AnalysisJudged b s None
  judged = subject_same b d s.moment s.group (Free d) (Free b) (sym alike.world) free was.judged

  memory : IsRefusedBy OutOfMemory (AnalysisJudged b s) f → f ≡ OutOfMemory
  memory (inl stands) =
      absurd (subject_alone b s.moment s.group f (Free b)
      (step_alone (¬ IsReported b s) AlreadyFiled f Passed (λ h. passed_alone f)) judged stands)
  memory (inr out) = out.0

-- ---- one line

-- a line was accepted and did the same; or it was refused, though no refusal applies
abbrev pub DidOrRanOut : CoreState → Line → CoreState → List ℕ → CoreState → Type 0
DidOrRanOut b l next own grown =
    (PrintsAccepted b l next own × AreAlikeCores next grown)
    ⊎ (MayBeAccepted b l × (own ≡ refused_line (number_of OutOfMemory)))

line_ran : (b d : CoreState) (l : Line) (next : CoreState) (own : List ℕ) (grown : CoreState) → AreAlikeCores b d
    → AcceptsLine d l grown → PrintsLine b l next own → DidOrRanOut b l next own grown
line_ran b d (line.Event event words) next own grown alike (g, again) (inl (e, happened, is)) =
    inl ((e, happened, is), (same_event b d event words e g next grown alike happened again).0)
line_ran b d (line.Event event words) next own grown alike (g, again) (inr (fault, refused, same, is)) =
    let out = refused_event b d event words g grown fault alike.world again refused in
    inr (out.0, is ∙ ap (λ f. refused_line (net.number_of f)) out.1)
line_ran b d (line.Analyse subject workers) next own grown alike (t, again) (inl (r, was, is)) =
    inl ((r, was, is), (same_analysis b d subject r t next grown alike was again).0)
line_ran b d (line.Analyse subject workers) next own grown alike (t, again) (inr (fault, refused, same, is)) =
    let out = refused_analysis b d subject t grown fault alike again refused in
    inr (out.0, is ∙ ap (λ f. refused_line (number_of f)) out.1)
line_ran b d (line.Look look) next own grown alike accepted ran = absurd accepted
line_ran b d (line.Together sections) next own grown alike accepted ran = absurd accepted

-- ---- all lines

-- a line was accepted before memory ran out
out_more : (b : CoreState) (l : Line) (lines : List Line) (next : CoreState) (own others text : List ℕ)
    → PrintsAccepted b l next own → text ≡ own ++ others → RanOutOfMemory next lines others
    → RanOutOfMemory b (l ∷ lines) text
out_more b l lines next own others text accepted is out = record {
  done = l ∷ out.done;
  line = out.line;
  left = out.left;
  parted = ap (λ ls. l ∷ ls) out.parted;
  core = out.core;
  before = own ++ out.before;
  prints = (next, own, out.before, accepted, out.prints, refl);
  free = out.free;
  later = out.later;
  printed =
      is ∙ ap (λ t. own ++ t) out.printed
      ∙ sym (append_assoc own out.before (refused_line (number_of OutOfMemory) ++ out.later));
}

-- memory ran out at the first line
out_now : (b : CoreState) (l : Line) (lines : List Line) (own others text : List ℕ) → MayBeAccepted b l
    → own ≡ refused_line (number_of OutOfMemory) → text ≡ own ++ others → RanOutOfMemory b (l ∷ lines) text
out_now b l lines own others text free refused is = record {
  done = [];
  line = l;
  left = lines;
  parted = refl;
  core = b;
  before = [];
  prints = (refl, refl);
  free = free;
  later = others;
  printed = is ∙ ap (λ t. t ++ others) refused;
}

-- a line ran, and then the others did or memory ran out at one of them
goes_on : (b : CoreState) (l : Line) (lines : List Line) (next mid : CoreState) (own others text : List ℕ)
    (Did DidMore : Type 0) → (PrintsAccepted b l next own → Did → DidMore) → text ≡ own ++ others
    → DidOrRanOut b l next own mid → (AreAlikeCores next mid → Did ⊎ RanOutOfMemory next lines others)
    → DidMore ⊎ RanOutOfMemory b (l ∷ lines) text
goes_on b l lines next mid own others text Did DidMore with_first is (inr (free, refused)) rest =
    inr (out_now b l lines own others text free refused is)
goes_on b l lines next mid own others text Did DidMore with_first is (inl (prints, same)) rest =
    elim (rest same) [
      | inl did ↦ inl (with_first prints did)
      | inr out ↦ inr (out_more b l lines next own others text prints is out)
    ]

lines_ran : (b d : CoreState) (lines : List Line) (u c : CoreState) (text : List ℕ) → AreAlikeCores b d
    → AcceptsAll d lines c → PrintsLines b lines u text
    → DidTheSame b lines text u c ⊎ RanOutOfMemory b lines text
lines_ran b d [] u c text alike grown ran = inl (record {
  prints = ran;
  same = subst (λ x. AreAlikeCores x c) (sym ran.0) (subst (λ x. AreAlikeCores b x) (sym grown) alike);
})
lines_ran b d (l ∷ lines) u c text alike (mid, accepted, more) (next, own, others, first, rest, is) =
    goes_on b l lines next mid own others text (DidTheSame next lines others u c) (DidTheSame b (l ∷ lines) text u c)
    (λ prints did. record { prints = (next, own, others, prints, did.prints, is); same = did.same }) is
    (line_ran b d l next own mid alike accepted first)
    (λ same. lines_ran next mid lines u c others same more rest)

-- ---- lines of a run that ended early

-- nothing is printed of a line that is not printed whole, if it was accepted once
line_began : (b d : CoreState) (l : Line) (grown : CoreState) (text : List ℕ) → AcceptsLine d l grown
    → BeginsLine b l text → text ≡ []
line_began b d (line.Event event words) grown text accepted begins = begins
line_began b d (line.Analyse subject workers) grown text accepted begins = begins
line_began b d (line.Look look) grown text accepted begins = absurd accepted
line_began b d (line.Together sections) grown text accepted begins = absurd accepted

-- nothing was printed yet
nothing : (b : CoreState) (lines : List Line) (text : List ℕ) → text ≡ [] → DidSomeOfIt b lines text
nothing b lines text is =
    record { done = []; left = lines; parted = refl; core = b; prints = (refl, is) }

some_more : (b : CoreState) (l : Line) (lines : List Line) (next : CoreState) (own others text : List ℕ)
    → PrintsAccepted b l next own → text ≡ own ++ others → DidSomeOfIt next lines others
    → DidSomeOfIt b (l ∷ lines) text
some_more b l lines next own others text accepted is some = record {
  done = l ∷ some.done;
  left = some.left;
  parted = ap (λ ls. l ∷ ls) some.parted;
  core = some.core;
  prints = (next, own, others, accepted, some.prints, is);
}

lines_began : (strictness : Strictness) (b d : CoreState) (lines : List Line) (c : CoreState) (text : List ℕ)
    → AreAlikeCores b d → AcceptsAll d lines c → BeginsLines strictness b lines text
    → DidSomeOfIt b lines text ⊎ RanOutOfMemory b lines text
lines_began strictness b d [] c text alike grown is = inl (nothing b [] text is)
lines_began strictness b d (l ∷ lines) c text alike (mid, accepted, more) (inl begins) =
    inl (nothing b (l ∷ lines) text (line_began b d l mid text accepted begins))
lines_began strictness b d (l ∷ lines) c text alike (mid, accepted, more) (inr (next, own, others, first, rest, is)) =
    goes_on b l lines next mid own others text (DidSomeOfIt next lines others) (DidSomeOfIt b (l ∷ lines) text)
    (λ prints some. some_more b l lines next own others text prints is some) is
    (line_ran b d l next own mid alike accepted (goes_on_prints strictness b l next own first))
    (λ same. lines_began strictness next mid lines c others same more rest)

-- ---- lines that are accepted twice

line_one : (b d : CoreState) (l : Line) (u v : CoreState) (text other : List ℕ) → AreAlikeCores b d
    → PrintsAccepted b l u text → PrintsAccepted d l v other → (text ≡ other) × AreAlikeCores u v
line_one b d (line.Event event words) u v text other alike (e, happened, is) (g, again, is_also) =
    let same = same_event b d event words e g u v alike happened again in
    (is ∙ ap entry_line same.1 ∙ sym is_also, same.0)
line_one b d (line.Analyse subject workers) u v text other alike (r, was, is) (t, again, is_also) =
    let same = same_analysis b d subject r t u v alike was again in (is ∙ same.1 ∙ sym is_also, same.0)
line_one b d (line.Look look) u v text other alike accepted again = absurd accepted
line_one b d (line.Together sections) u v text other alike accepted again = absurd accepted

lines_one : (b d : CoreState) (lines : List Line) (u v : CoreState) (text other : List ℕ) → AreAlikeCores b d
    → PrintsAllAccepted b lines u text → PrintsAllAccepted d lines v other → (text ≡ other) × AreAlikeCores u v
lines_one b d [] u v text other alike (rests, is) (rests_also, is_also) = (
  is ∙ sym is_also,
  subst (λ x. AreAlikeCores x v) (sym rests) (subst (λ x. AreAlikeCores b x) (sym rests_also) alike),
)
lines_one b d (l ∷ lines) u v text other alike (next, own, others, first, rest, is)
    (next_also, own_also, others_also, first_also, rest_also, is_also) =
    let same = line_one b d l next next_also own own_also alike first first_also in
    let later = lines_one next next_also lines u v others others_also same.1 rest rest_also in (
      is ∙ ap (λ t. t ++ others) same.0 ∙ ap (λ t. own_also ++ t) later.0 ∙ sym is_also,
      later.1,
    )

-- ---- the theorem

-- the lines of a file that replays a core, as any scenario that the file says has them, make the core
lines_of : (bytes : List ℕ) (c : CoreState) (s : Scenario) → Replays bytes c → IsScenario bytes s
    → AcceptsAll (opening_core s.params) s.lines.items c
lines_of bytes c s replays says =
    let same = one_scenario bytes replays.scenario s replays.says says in
    subst (λ p. AcceptsAll (opening_core p) s.lines.items c) same.0
    (subst (λ ls. AcceptsAll (opening_core replays.scenario.params) ls c) same.2 replays.accepted)

pub every_run_refuses_nothing : EveryRunRefusesNothing
every_run_refuses_nothing = record {
  whole = λ bytes text c replays run.
      let start = opening_core run.scenario.params in
      lines_ran start start run.scenario.lines.items run.core c text (alike_itself start)
      (lines_of bytes c run.scenario replays run.says) run.lines;
  begun = λ strictness bytes text c replays run.
      let start = opening_core run.scenario.params in
      lines_began strictness start start run.scenario.lines.items c text (alike_itself start)
      (lines_of bytes c run.scenario replays run.says) run.lines;
  one = λ b lines u v text other prints again.
      lines_one b b lines u v text other (alike_itself b) prints again;
}
