-- the rows so far are changed, and the others not
use Rattle.std.proofs.Common.{◌≡◌, ◌↔◌, ℕ, ◌<◌, ◌≤◌, ◌*◌}
use Rattle.ov_graph.specs.Row.{HasBit}
use Rattle.ov_graph.specs.Code.Shifts.{HasClosed}
use Rattle.ov_graph.specs.Code.Kept.{row_at}
use Rattle.ov_graph.proofs.changing.close_all.Given as goal

abbrev pub invariant-loop-place : goal.invariant-loop-place
invariant-loop-place l = record {
  before : (r s : ℕ) → r < l.place → HasBit (row_at l.rows r) s
      ↔ ((s < 64 * l.words) × HasClosed (row_at l.fn.rows r) l.p s);
  rest : (r : ℕ) → l.place ≤ r → row_at l.rows r ≡ row_at l.fn.rows r;
}
