use Rattle.std.proofs.Common.{◌≡◌, length}
use Rattle.ov_flow.specs.Code.Stamped.{AreStamped}
use Rattle.ov_flow.proofs.place_table.blank_cells.Given as goal

abbrev pub invariant-loop-place : goal.invariant-loop-place
invariant-loop-place l = record {
  long : length l.cells.items ≡ l.place;
  blank : AreStamped 0 l.cells.items;
}
