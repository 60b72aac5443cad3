-- A table whose cells count only if they have its stamp.
use Rattle.std.specs.Prelude.{ℕ, ◌≤◌, ◌==◌, List, get_or, Option, Some, None, if◌then◌else◌}
use Rattle.ov_flow.specs.declared.place_table.Cell.{Cell}

-- the place that a cell says, in a table with this stamp
abbrev pub said_by : ℕ → Cell → Option ℕ
said_by stamp c = if c.stamp == stamp then Some c.before else None

-- the stamp of the cell at a place, or 0 if there is none
abbrev pub stamp_at : List Cell → ℕ → ℕ
stamp_at cells v = (get_or cells v (record { stamp = 0; before = 0 })).stamp

-- no cell has a later stamp
abbrev pub AreStamped : ℕ → List Cell → Type 0
AreStamped stamp cells = (v : ℕ) → stamp_at cells v ≤ stamp
