-- Why a file of rows is not read.
use Rattle.std.proofs.Common.{◌≡◌, ℕ, List, Option, IfSome}
use Rattle.ov_sweep_rows.specs.Refusals.{IsRowRefusal}
use Rattle.ov_sweep_rows.specs.declared.row_fault.RowFault.{RowFault}
use Rattle.ov_sweep_rows.specs.declared.row_fault.RowFault.TheVariants as row
use Rattle.ov_grow_commands.specs.GrowFaults.{fault_of_rows}
use Rattle.ov_grow_commands.specs.Code.RowFiles.{IsUnreadRows}

-- bytes that are refused are why
pub refused_rows : (reader : Option (List ℕ)) (bytes : List ℕ) (fault : RowFault) → IfSome reader (λ xs. bytes ≡ xs)
    → IsRowRefusal bytes fault → IsUnreadRows reader (fault_of_rows fault)
refused_rows reader bytes row.Header same is = (bytes, row.Header, same, is)
refused_rows reader bytes (row.FieldCount line fields columns) same is =
    (bytes, row.FieldCount line fields columns, same, is)
refused_rows reader bytes (row.Field line field) same is = (bytes, row.Field line field, same, is)
refused_rows reader bytes row.OutOfMemory same is = tt
