-- What is printed up to some point.
use Rattle.std.proofs.Common.{inl, inr, ℕ, List, [], ◌∷◌, ◌++◌, ap, sym, ◌∙◌, refl}
use Rattle.std.proofs.lemmas.List.{append-nil}
use Rattle.ov_snap.specs.CoreState.{CoreState}
use Rattle.ov_run_meaning.specs.Ending.{BeginsLook, BeginsLine, BeginsLines}
use Rattle.ov_run_meaning.specs.Strict.{GoesOn}
use Rattle.ov_run_meaning.specs.declared.strictness.Strictness.{Strictness}
use Rattle.ov_run_meaning.specs.declared.strictness.Strictness.TheVariants.{Strict}
use Rattle.ov_run_meaning.proofs.Accepted.{accepted_goes_on}
use Rattle.ov_scenario.specs.declared.scenario.Line.{Line}
use Rattle.ov_scenario.specs.declared.scenario.Line.TheVariants as line
use Rattle.ov_scenario.specs.declared.scenario.Look.{Look}
use Rattle.ov_scenario.specs.declared.scenario.Look.TheVariants.{Show, Packets, Certificate}

look_nothing : (b : CoreState) (look : Look) → BeginsLook b look []
look_nothing b (Show id) = refl
look_nothing b Packets = (0, refl)
look_nothing b (Certificate subject) = refl

line_nothing : (b : CoreState) (line : Line) → BeginsLine b line []
line_nothing b (line.Event event words) = refl
line_nothing b (line.Look look) = look_nothing b look
line_nothing b (line.Analyse subject workers) = refl
line_nothing b (line.Together sections) = refl

module _ (strictness : Strictness) (b : CoreState) where
  -- nothing is printed yet
  pub nothing : (lines : List Line) → BeginsLines strictness b lines []
  nothing [] = refl
  nothing (line ∷ lines) = inl (line_nothing b line)

  -- a line is printed whole, and no other follows it
  pub whole : (line : Line) (next : CoreState) (text : List ℕ) → GoesOn strictness b line next text
      → BeginsLines strictness b (line ∷ []) text
  whole line next text prints = inr (next, text, [], prints, refl, sym (append-nil text))

-- what begins a line begins it also where others follow it
pub followed : (strictness : Strictness) (b : CoreState) (line : Line) (lines : List Line) (text : List ℕ)
    → BeginsLines strictness b (line ∷ []) text → BeginsLines strictness b (line ∷ lines) text
followed strictness b line lines text (inl begins) = inl begins
followed strictness b line lines text (inr (next, own, others, prints, none, is)) =
    inr (next, own, [], prints, nothing strictness next lines, is ∙ ap (λ t. own ++ t) none)

-- what begins lines of a strict run begins them in any run: of one line
pub begun_so_too : (strictness : Strictness) (b : CoreState) (line : Line) (text : List ℕ)
    → BeginsLines Strict b (line ∷ []) text → BeginsLines strictness b (line ∷ []) text
begun_so_too strictness b line text (inl begins) = inl begins
begun_so_too strictness b line text (inr (next, own, others, accepts, none, is)) =
    inr (next, own, others, accepted_goes_on strictness b line next own accepts, none, is)
