-- The phases of a row and their words, and why a text of rows is refused.
use Rattle.std.specs.Prelude.{ℕ, List, codes}
use Rattle.ov_sweep_rows.specs.declared.row.Phase.{Phase}
use Rattle.ov_sweep_rows.specs.declared.row.Phase.TheVariants.{Settle, Crash, Heal}
use Rattle.ov_sweep_rows.specs.declared.row_fault.RowFault.{RowFault}
use Rattle.ov_sweep_rows.specs.declared.row_fault.RowFault.TheVariants.{Header, FieldCount, Field, OutOfMemory}

-- the place of a phase in a row, counted from 0
abbrev pub place_of : Phase → ℕ
place_of Settle = 0
place_of Crash = 1
place_of Heal = 2

-- the word for a phase
abbrev pub phase_name : Phase → List ℕ
phase_name Settle = codes "settle"
phase_name Crash = codes "crash"
phase_name Heal = codes "heal"

-- the fault's number: that of a line that can't be read, or that of a refused allocation
abbrev pub number_of : RowFault → ℕ
number_of Header = 70
number_of (FieldCount line fields needed) = 70
number_of (Field line field) = 70
number_of OutOfMemory = 99
