-- From what became of a line, and what was written of it after that, to what the line prints, that it was accepted, or
-- that it was refused.
use Rattle.std.proofs.Common.{◌≡◌, ◌∙◌, inl, inr, ℕ, List, [], ◌∷◌, ◌++◌, length, Option, Some, None, refl, sym}
use Rattle.std.proofs.Common.{subst, ap, arith}
use Rattle.std.proofs.lemmas.List.{append-nil}
use Rattle.std.specs.Io.KnownBytes.{Appends}
use Rattle.ov_net.specs.Net.{Net}
use Rattle.ov_snap.specs.CoreState.{CoreState}
use Rattle.ov_scenario.specs.declared.scenario.Line.{Line}
use Rattle.ov_scenario.specs.declared.scenario.Line.TheVariants as line
use Rattle.ov_scenario.specs.declared.scenario.Look.{Look}
use Rattle.ov_scenario.specs.declared.scenario.Look.TheVariants.{Show, Packets, Certificate}
use Rattle.ov_scenario.specs.declared.scenario.Subject.{Subject}
use Rattle.ov_run_meaning.specs.Accepting.{HidesCertificate, HidesNode, RefusesLook}
use Rattle.ov_run_meaning.specs.Printed.{refused_line, together_line}
use Rattle.ov_run_meaning.specs.Refusals.{number_of}
use Rattle.ov_run_meaning.specs.Running.{PrintsCertificate, PrintsLine, PrintsLook, PrintsNode}
use Rattle.ov_run_meaning.specs.Sections.{ToldLine, accepted_in, one_refused, refused_in}
use Rattle.ov_run_meaning.specs.Strict.{AcceptsLine, GoesOn, IsFirstRefused, RefusesLine}
use Rattle.ov_run.specs.Code.Jobs.{joined}
use Rattle.ov_run.specs.Code.Outcomes.{LineCame, RanAsBlock, RefusesAlone, first_refused, or_else, refusal_at}
use Rattle.ov_run.specs.Code.Outcomes.{refused_of, rest_of, stop_of}
use Rattle.ov_run.specs.declared.line_outcome.BlockTold.{BlockTold}
use Rattle.ov_run.specs.declared.line_outcome.Came.{Came}
use Rattle.ov_run.specs.declared.line_outcome.Came.TheVariants.{Alone, Block}
use Rattle.ov_run_meaning.specs.declared.line_run_outcome.LineOutcome.{LineOutcome}
use Rattle.ov_run_meaning.specs.declared.line_run_outcome.LineOutcome.TheVariants.{Accepted, Refused}
use Rattle.ov_run_meaning.specs.declared.refusal.Refusal.{Refusal}
use Rattle.ov_run_meaning.specs.declared.refusal.Refusal.TheVariants.{World, Core}
use Rattle.ov_run_meaning.specs.declared.strictness.Strictness.{Strictness}
use Rattle.ov_run_meaning.specs.declared.strictness.Strictness.TheVariants.{Lenient, Strict}
use Rattle.ov_run_meaning.proofs.Accepted.{accepted_prints}

-- ---- what a line prints

node_hidden : (w : Net) (id : ℕ) (refusal : Refusal) → HidesNode w id refusal
    → PrintsNode w id (refused_line (number_of refusal))
node_hidden w id refusal (inl (unborn, is)) = inr (inl (unborn, ap (λ r. refused_line (number_of r)) is))
node_hidden w id refusal (inr (gone, is)) = inr (inr (gone, ap (λ r. refused_line (number_of r)) is))

certificate_hidden : (b : CoreState) (subject : Subject) (refusal : Refusal) → HidesCertificate b subject refusal
    → PrintsCertificate b subject (refused_line (number_of refusal))
certificate_hidden b subject refusal (inl (none, is)) = inr (none, ap (λ r. refused_line (number_of r)) is)
certificate_hidden b subject refusal (inr ((r, filed), is)) =
    inl (r, filed, inr (ap (λ x. refused_line (number_of x)) is))

look_refused : (b : CoreState) (look : Look) (refusal : Refusal) → RefusesLook b look refusal
    → PrintsLook b look (refused_line (number_of refusal))
look_refused b (Show id) refusal hides = node_hidden b.world.net id refusal hides
look_refused b Packets refusal hides = absurd hides
look_refused b (Certificate subject) refusal hides = certificate_hidden b subject refusal hides

-- a line that is refused prints the number of its refusal
pub refused_prints : (b : CoreState) (line : Line) (refusal : Refusal) → RefusesAlone b line refusal
    → PrintsLine b line b (refused_line (number_of refusal))
refused_prints b (line.Event event words) (World fault) refuses = inr (fault, refuses, refl, refl)
refused_prints b (line.Event event words) (Core fault) refuses = absurd refuses
refused_prints b (line.Look look) refusal refuses = (refl, look_refused b look refusal refuses)
refused_prints b (line.Analyse subject workers) (World fault) refuses = absurd refuses
refused_prints b (line.Analyse subject workers) (Core fault) refuses = inr (fault, refuses, refl, refl)
refused_prints b (line.Together sections) refusal refuses = absurd refuses

-- ---- the first line of sections that was refused

abbrev number_in : Option (ℕ × Refusal) → ℕ
number_in None = 0
number_in (Some found) = found.0

abbrev refusal_in : Refusal → Option (ℕ × Refusal) → Refusal
refusal_in other None = other
refusal_in other (Some found) = found.1

first_more :
    (told : ToldLine) (others : List ToldLine) (n : ℕ) (refusal : Refusal) (o : LineOutcome) → told.outcome ≡ o
    → or_else (refusal_at told.number o) (first_refused others) ≡ Some (n, refusal)
    → (first_refused others ≡ Some (n, refusal) → IsFirstRefused others n refusal)
    → IsFirstRefused (told ∷ others) n refusal
first_more told others n refusal Accepted is first later =
    let own = later first in
    let one : one_refused told.outcome ≡ 0 = ap one_refused is in
    let none = own.4 in
    (told ∷ own.0, own.1, own.2, ap (λ ts. told ∷ ts) own.3, omega (arith, one, none), own.5, own.6)
first_more told others n refusal (Refused own) is first later =
    ([], told, others, refl, refl, ap number_in first, is ∙ ap Refused (ap (refusal_in own) first))

-- the one that is found is the first
first_found : (told : List ToldLine) (n : ℕ) (refusal : Refusal) → first_refused told ≡ Some (n, refusal)
    → IsFirstRefused told n refusal
first_found [] n refusal is = absurd cc
first_found (told ∷ others) n refusal is =
    first_more told others n refusal told.outcome refl is (first_found others n refusal)

none_more :
    (told : ToldLine) (others : List ToldLine) (o : LineOutcome) → told.outcome ≡ o
    → or_else (refusal_at told.number o) (first_refused others) ≡ None
    → (first_refused others ≡ None → refused_in others ≡ 0)
    → refused_in (told ∷ others) ≡ 0
none_more told others Accepted is none later =
    let one : one_refused told.outcome ≡ 0 = ap one_refused is in
    let rest = later none in
    omega (arith, one, rest)
none_more told others (Refused own) is none later = absurd cc

-- if none is found, none was refused
none_found : (told : List ToldLine) → first_refused told ≡ None → refused_in told ≡ 0
none_found [] is = refl
none_found (told ∷ others) is = none_more told others told.outcome refl is (none_found others)

-- the first of two lists, or else of the second
pub first_append : (own others : List ToldLine)
    → first_refused (own ++ others) ≡ or_else (first_refused own) (first_refused others)
first_append [] others = refl
first_append (told ∷ own) others =
    ap (λ later. or_else (refusal_at told.number told.outcome) later) (first_append own others)
    ∙ sym (or_else_assoc (refusal_at told.number told.outcome) (first_refused own) (first_refused others))
  where
    or_else_assoc : (a b c : Option (ℕ × Refusal)) → or_else (or_else a b) c ≡ or_else a (or_else b c)
    or_else_assoc None b c = refl
    or_else_assoc (Some found) b c = refl

-- ---- what became of a line

-- a run that goes on is not strict, or no line was refused
pub went_on : (strictness : Strictness) (n : ℕ) (came : Came) → stop_of strictness n came ≡ None
    → strictness ≡ Strict → refused_of n came ≡ None
went_on Lenient n came is strict = absurd cc
went_on Strict n came is strict = is

-- so it goes on after the line
pub goes_on : (strictness : Strictness) (b : CoreState) (line : Line) (u : CoreState) (n : ℕ) (came : Came)
    (text : List ℕ) → PrintsLine b line u text → (refused_of n came ≡ None → AcceptsLine b line u text)
    → stop_of strictness n came ≡ None → GoesOn strictness b line u text
goes_on Lenient b line u n came text prints accepts none = prints
goes_on Strict b line u n came text prints accepts none = accepts none

-- a run that ends at a refused line is strict
pub ended_at : (strictness : Strictness) (n m : ℕ) (came : Came) (refusal : Refusal)
    → stop_of strictness n came ≡ Some (m, refusal)
    → (strictness ≡ Strict) × (refused_of n came ≡ Some (m, refusal))
ended_at Lenient n m came refusal is = absurd cc
ended_at Strict n m came refusal is = (refl, is)

-- the writer took this text of the line; with what is still to be written it is what the line prints, and if nothing of
-- the line was refused, what it prints if it is accepted
pub record Said (b : CoreState) (line : Line) (u : CoreState) (n : ℕ) (came : Came) (before after : Option (List ℕ))
    : Type 0 where
  pub own : List ℕ
  pub prints : PrintsLine b line u (own ++ rest_of came)
  pub accepts : refused_of n came ≡ None → AcceptsLine b line u (own ++ rest_of came)
  pub went : Appends before after own

module _ (b u : CoreState) (n : ℕ) (before after : Option (List ℕ)) where
  block_said : (line : Line) (block : BlockTold) → RanAsBlock b line u block → Appends before after []
      → Said b line u n (Block block) before after
  block_said (line.Event event words) block ran nothing = absurd ran
  block_said (line.Look look) block ran nothing = absurd ran
  block_said (line.Analyse subject workers) block ran nothing = absurd ran
  block_said (line.Together sections) block (runs, count, some, others) nothing =
      let is : together_line block.sections block.accepted block.refused
      ≡ together_line (length sections) (accepted_in (joined block.told)) (refused_in (joined block.told)) =
      (λ i. together_line (count i) (some i) (others i)) in
      record {
        own = [];
        prints = (joined block.told, (runs, is));
        accepts = λ none. (joined block.told, (runs, is), none_found (joined block.told) none);
        went = nothing;
      }

  -- what was written of a line of which this became
  pub said : (line : Line) (came : Came) → LineCame b line u before after came → Said b line u n came before after
  said line (Alone Accepted) (text, is, went) = record {
    own = text;
    prints = subst (λ t. PrintsLine b line u t) (sym (append-nil text)) (accepted_prints b line u text is);
    accepts = λ none. subst (λ t. AcceptsLine b line u t) (sym (append-nil text)) is;
    went = went;
  }
  said line (Alone (Refused refusal)) ((is, same), nothing) = record {
    own = [];
    prints = subst (λ (w : CoreState). PrintsLine b line w (refused_line (number_of refusal))) (sym same)
        (refused_prints b line refusal is);
    accepts = λ none. absurd cc;
    went = nothing;
  }
  said line (Block block) (ran, nothing) = block_said line block ran nothing

alone_refused : (b : CoreState) (line : Line) (own n : ℕ) (refusal : Refusal) → n ≡ own → RefusesAlone b line refusal
    → RefusesLine b line own n refusal
alone_refused b (line.Event event words) own n refusal same refuses = (same, refuses)
alone_refused b (line.Look look) own n refusal same refuses = (same, refuses)
alone_refused b (line.Analyse subject workers) own n refusal same refuses = (same, refuses)
alone_refused b (line.Together sections) own n refusal same refuses = absurd refuses

block_refused : (b u : CoreState) (line : Line) (block : BlockTold) (own n : ℕ) (refusal : Refusal)
    → RanAsBlock b line u block → first_refused (joined block.told) ≡ Some (n, refusal)
    → RefusesLine b line own n refusal
block_refused b u (line.Event event words) block own n refusal ran first = absurd ran
block_refused b u (line.Look look) block own n refusal ran first = absurd ran
block_refused b u (line.Analyse subject workers) block own n refusal ran first = absurd ran
block_refused b u (line.Together sections) block own n refusal (runs, count, some, others) first =
    (u, joined block.told, runs, first_found (joined block.told) n refusal first)

-- it was refused, or one of the lines of its sections was, and nothing was written of it
pub came_refused : (b u : CoreState) (a c : Option (List ℕ)) (line : Line) (own n : ℕ) (refusal : Refusal) (came : Came)
    → LineCame b line u a c came → refused_of own came ≡ Some (n, refusal)
    → RefusesLine b line own n refusal × Appends a c []
came_refused b u a c line own n refusal (Alone Accepted) came first = absurd cc
came_refused b u a c line own n refusal (Alone (Refused why)) ((is, same), nothing) first = (
  alone_refused b line own n refusal (sym (ap number_in first))
      (subst (λ (r : Refusal). RefusesAlone b line r) (ap (refusal_in why) first) is),
  nothing,
)
came_refused b u a c line own n refusal (Block block) (ran, nothing) first =
    (block_refused b u line block own n refusal ran first, nothing)
