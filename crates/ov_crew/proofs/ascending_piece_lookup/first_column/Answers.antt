use Rattle.std.proofs.Common.{refl}
use Rattle.ov_crew.proofs.Ascending.{column_first}
use Rattle.ov_crew.proofs.ascending_piece_lookup.first_column.Goals as goal

pub returns-clause-column : goal.returns-clause-column
returns-clause-column c m = column_first m (record { level = 1; first = 0; before = 1; start = 0 }) refl refl refl refl
