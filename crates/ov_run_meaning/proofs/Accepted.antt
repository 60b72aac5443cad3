-- What a line prints that is accepted, or after which a run goes on.
use Rattle.std.proofs.Common.{inl, ℕ, List}
use Rattle.ov_snap.specs.CoreState.{CoreState}
use Rattle.ov_scenario.specs.declared.scenario.Line.{Line}
use Rattle.ov_scenario.specs.declared.scenario.Line.TheVariants as line
use Rattle.ov_scenario.specs.declared.scenario.Look.{Look}
use Rattle.ov_scenario.specs.declared.scenario.Look.TheVariants.{Show, Packets, Certificate}
use Rattle.ov_run_meaning.specs.Accepting.{ShowsLook}
use Rattle.ov_run_meaning.specs.Running.{PrintsLine, PrintsLook}
use Rattle.ov_run_meaning.specs.Strict.{AcceptsLine, GoesOn}
use Rattle.ov_run_meaning.specs.declared.strictness.Strictness.{Strictness}
use Rattle.ov_run_meaning.specs.declared.strictness.Strictness.TheVariants.{Lenient, Strict}

pub look_shown : (b : CoreState) (look : Look) (text : List ℕ) → ShowsLook b look text → PrintsLook b look text
look_shown b (Show id) text shows = inl shows
look_shown b Packets text shows = shows
look_shown b (Certificate subject) text (r, is, said) = inl (r, is, inl said)

-- a line that is accepted prints its text
pub accepted_prints : (b : CoreState) (line : Line) (u : CoreState) (text : List ℕ) → AcceptsLine b line u text
    → PrintsLine b line u text
accepted_prints b (line.Event event words) u text does = inl does
accepted_prints b (line.Look look) u text (same, shows) = (same, look_shown b look text shows)
accepted_prints b (line.Analyse subject workers) u text files = inl files
accepted_prints b (line.Together sections) u text (told, runs, none) = (told, runs)

-- any run goes on after a line that is accepted
pub accepted_goes_on : (strictness : Strictness) (b : CoreState) (line : Line) (u : CoreState) (text : List ℕ)
    → AcceptsLine b line u text → GoesOn strictness b line u text
accepted_goes_on Lenient b line u text accepts = accepted_prints b line u text accepts
accepted_goes_on Strict b line u text accepts = accepts

-- a line after which the run goes on prints its text
pub goes_on_prints : (strictness : Strictness) (b : CoreState) (line : Line) (u : CoreState) (text : List ℕ)
    → GoesOn strictness b line u text → PrintsLine b line u text
goes_on_prints Lenient b line u text prints = prints
goes_on_prints Strict b line u text accepts = accepted_prints b line u text accepts
