-- The stamp of the table is later than that of each cell.
use Rattle.std.proofs.Common.{arith}
use Rattle.ov_flow.proofs.Stamping.{none_said}
use Rattle.ov_flow.proofs.place_table.PlaceTable.new.Goals as goal

pub returns-clause-empty : goal.returns-clause-empty
returns-clause-empty c = none_said 1 0 c.in_ok-blank_cells.field-0.items c.in_ok-blank_cells.ensures.blank (omega arith)
