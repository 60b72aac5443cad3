-- There are drivers for each of the lines that are left.
use Rattle.std.proofs.Common.{◌≤◌, ℕ, List, ◌∷◌, arith}
use Rattle.ov_scenario.specs.RunLines.{drivers_for}
use Rattle.ov_scenario.specs.declared.scenario.Line.{Line}
use Rattle.ov_scenario.specs.declared.scenario.Line.TheVariants as line
use Rattle.ov_run.specs.Code.Jobs.{HasDrivers}

-- for the first line and for the others
pub drivers_more :
    (n : ℕ) (line : Line) (lines : List Line) → drivers_for (line ∷ lines) ≤ n
    → HasDrivers n line × (drivers_for lines ≤ n)
unfolding drivers_for
drivers_more n (line.Together sections) lines few = (omega (arith, few), omega (arith, few))
drivers_more n (line.Event event words) lines few = (tt, few)
drivers_more n (line.Look look) lines few = (tt, few)
drivers_more n (line.Analyse subject workers) lines few = (tt, few)
