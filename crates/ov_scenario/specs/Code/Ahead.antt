-- The lines of a file that are not judged yet.
use Rattle.std.specs.Prelude.{ℕ, List, [], ◌∷◌, map, Option, Some, None}
use Rattle.ov_scenario.specs.Scenarios.{stated_at}
use Rattle.ov_scenario.specs.Statements.{Stated}

-- the lines that are ahead: the next one, if there is one, and those of the file after it
abbrev pub lines_left : Option Stated → List (ℕ × List ℕ) → List Stated
lines_left None after = []
lines_left (Some line) after = line ∷ map stated_at after
