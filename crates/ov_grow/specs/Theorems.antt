-- THE MAIN THEOREM: a scenario whose lines were all accepted once is run without a refusal, unless memory runs out.
use Rattle.std.specs.Prelude.{◌≡◌, ◌⊎◌, ℕ, List, ◌∷◌, ◌++◌}
use Rattle.ov_snap.specs.CoreState.{CoreState, opening_core}
use Rattle.ov_snap.specs.Refusals.{number_of}
use Rattle.ov_snap.specs.declared.refused_core_call.CoreFault.TheVariants.{OutOfMemory}
use Rattle.ov_scenario.specs.declared.scenario.Line.{Line}
use Rattle.ov_run_meaning.specs.Ending.{IsBegun}
use Rattle.ov_run_meaning.specs.Printed.{refused_line}
use Rattle.ov_run_meaning.specs.Running.{IsOutput}
use Rattle.ov_run_meaning.specs.declared.strictness.Strictness.{Strictness}
use Rattle.ov_grow.specs.Alike.{AreAlikeCores}
use Rattle.ov_grow.specs.Replay.{MayBeAccepted, PrintsAllAccepted, Replays}

-- the lines ran from b on to the core u, and printed this text: each was accepted, and u is like the core c
pub record DidTheSame (b : CoreState) (lines : List Line) (text : List ℕ) (u c : CoreState) : Type 0 where
  pub prints : PrintsAllAccepted b lines u text
  pub same : AreAlikeCores u c

-- the lines ran from b on, and printed this text up to some point: those up to it were accepted
pub record DidSomeOfIt (b : CoreState) (lines : List Line) (text : List ℕ) : Type 0 where
  pub done : List Line
  pub left : List Line
  pub parted : lines ≡ done ++ left
  pub core : CoreState
  pub prints : PrintsAllAccepted b done core text

-- the lines ran from b on and printed this text, and at one of them memory ran out: all lines before it were accepted,
-- no refusal applies to it, and `refused 99` was printed of it
pub record RanOutOfMemory (b : CoreState) (lines : List Line) (text : List ℕ) : Type 0 where
  pub done : List Line
  pub line : Line
  pub left : List Line
  pub parted : lines ≡ done ++ line ∷ left
  pub core : CoreState
  pub before : List ℕ
  pub prints : PrintsAllAccepted b done core before
  pub free : MayBeAccepted core line
  pub later : List ℕ
  pub printed : text ≡ before ++ (refused_line (number_of OutOfMemory) ++ later)

-- Whatever file replays a core c: run, it refuses no line, and does what made c, event for event, unless memory runs
-- out.
pub record EveryRunRefusesNothing : Type 0 where
  -- whatever the run printed, each line was accepted, and its core is like c; or memory ran out
  pub whole : (bytes text : List ℕ) (c : CoreState) → Replays bytes c → (run : IsOutput bytes text)
      → DidTheSame (opening_core run.scenario.params) run.scenario.lines.items text run.core c
      ⊎ RanOutOfMemory (opening_core run.scenario.params) run.scenario.lines.items text
  -- the same of a run that ended early, strict or not
  pub begun : (strictness : Strictness) (bytes text : List ℕ) (c : CoreState) → Replays bytes c
      → (run : IsBegun strictness bytes text)
      → DidSomeOfIt (opening_core run.scenario.params) run.scenario.lines.items text
      ⊎ RanOutOfMemory (opening_core run.scenario.params) run.scenario.lines.items text
  -- lines that are accepted print one text, and make one core but for the paths of certificates
  pub one : (b : CoreState) (lines : List Line) (u v : CoreState) (text other : List ℕ)
      → PrintsAllAccepted b lines u text → PrintsAllAccepted b lines v other
      → (text ≡ other) × AreAlikeCores u v
