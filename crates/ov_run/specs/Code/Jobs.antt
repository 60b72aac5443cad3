-- The jobs of the drivers in a block, and what came of each.
use Rattle.std.specs.Prelude.{ℕ, ◌≤◌, List, [], ◌∷◌, flat_map, length}
use Rattle.ov_ids.specs.ParamsState.{ParamsState}
use Rattle.ov_snap.specs.declared.ghost_log_of_drivers.Ticket.{Ticket}
use Rattle.ov_run_meaning.specs.Sections.{RunsSection, ToldLine}
use Rattle.ov_scenario.specs.Sections.{SectionLine}
use Rattle.ov_scenario.specs.declared.scenario.Line.{Line}
use Rattle.ov_scenario.specs.declared.scenario.Line.TheVariants as line

-- there is a driver for each section of a line that is a block
abbrev pub HasDrivers : ℕ → Line → Type 0
HasDrivers n (line.Together sections) = length sections ≤ n
HasDrivers n other = Unit {0}

-- a job: the pass of a driver, and the lines that it runs
abbrev pub Job : Type 0
Job = Ticket × List SectionLine

-- what came of a job: the pass after it, and the lines with what came of each
abbrev pub Ran : Type 0
Ran = Ticket × List ToldLine

-- what came of the lines of each driver, one driver after the other
abbrev pub joined : List (List ToldLine) → List ToldLine
joined told = flat_map (λ own. own) told

-- the job of each driver: its pass, and its section; a driver without a section has no line to run
abbrev pub jobs_of : List Ticket → List (List SectionLine) → List Job
jobs_of [] sections = []
jobs_of (p ∷ ps) [] = (p, []) ∷ jobs_of ps []
jobs_of (p ∷ ps) (section ∷ sections) = (p, section) ∷ jobs_of ps sections

-- the job was done
abbrev pub HasRun : ParamsState → Job → Ran → Type 0
HasRun params job ran = RunsSection params job.0 job.1 ran.1 ran.0

-- each job was done, with the result at its place
abbrev pub HaveRun : ParamsState → List Job → List Ran → Type 0
HaveRun params [] [] = Unit {0}
HaveRun params [] (r ∷ rs) = ⊥
HaveRun params (j ∷ js) [] = ⊥
HaveRun params (j ∷ js) (r ∷ rs) = HasRun params j r × HaveRun params js rs

-- each job of each shift was done, with the result at its place
abbrev pub HaveAllRun : ParamsState → List (List Job) → List (List Ran) → Type 0
HaveAllRun params [] [] = Unit {0}
HaveAllRun params [] (rs ∷ more) = ⊥
HaveAllRun params (js ∷ others) [] = ⊥
HaveAllRun params (js ∷ others) (rs ∷ more) = HaveRun params js rs × HaveAllRun params others more
