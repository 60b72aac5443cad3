-- what was found so far, with what is left, decides
use Rattle.std.proofs.Common.{◌≡◌, drop}
use Rattle.std.specs.Prelude.{◌&&◌, ◌||◌}
use Rattle.std.specs.List.{list_all, list_any}
use Rattle.ov_sweep_rows.specs.Writing.{asks_further, each_is, has_costs, has_shape}
use Rattle.ov_sweep_rows.proofs.row_form.RowForm.of_rows.Given as goal

abbrev pub invariant-loop-row : goal.invariant-loop-row
invariant-loop-row l = record {
  costs : (l.costs && list_all has_costs (drop l.row-index l.rows)) ≡ each_is has_costs l.rows;
  shape : (l.shape && list_all has_shape (drop l.row-index l.rows)) ≡ each_is has_shape l.rows;
  further : (l.further || list_any asks_further (drop l.row-index l.rows)) ≡ list_any asks_further l.rows;
}
