-- Why a file of rows is not read.
use Rattle.std.specs.Prelude.{◌≡◌, ℕ, ⊤, List, Option, IfSome}
use Rattle.ov_sweep_rows.specs.Refusals.{IsRowRefusal}
use Rattle.ov_sweep_rows.specs.declared.row_fault.RowFault.{RowFault}
use Rattle.ov_grow_commands.specs.declared.grow_command_fault.GrowCommandFault.{GrowCommandFault}
use Rattle.ov_grow_commands.specs.declared.grow_command_fault.GrowCommandFault.TheVariants as growth

-- there are no rows of a reader that had these bytes, if they are known: they are refused, or the reader failed, or
-- memory ran out
abbrev pub IsUnreadRows : Option (List ℕ) → GrowCommandFault → Type 0
IsUnreadRows reader growth.Row =
    (bytes : List ℕ) × (fault : RowFault) × IfSome reader (λ xs. bytes ≡ xs) × IsRowRefusal bytes fault
IsUnreadRows reader growth.Read = ⊤
IsUnreadRows reader growth.OutOfMemory = ⊤
IsUnreadRows reader other = ⊥
