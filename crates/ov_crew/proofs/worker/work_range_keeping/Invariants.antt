-- The worker goes on, has skipped nothing, and has settled the pieces of its numbers.
use Rattle.std.proofs.Common.{◌≡◌, ◌-◌, false, length, None}
use Rattle.ov_crew.specs.Code.Kept.{IsHaulKeeping}
use Rattle.ov_crew.proofs.Taking.{bound_of}
use Rattle.ov_crew.proofs.worker.work_range_keeping.Given as goal

abbrev pub invariant-loop-number : goal.invariant-loop-number
invariant-loop-number g l = record {
  settler : l.settler ≡ record { graph = l.graph; members = l.group };
  order : l.order ≡ record { nodes = length l.graph.nodes; members = length l.group };
  board : l.seat.board ≡ l.fn.seat.board;
  number : l.seat.number ≡ l.fn.seat.number;
  goes_on : l.seat.worker.ended ≡ false;
  none_skipped : l.seat.worker.skipped ≡ None;
  haul : IsHaulKeeping l.keeping l.graph l.group l.first l.seat.worker l.pieces.items;
}

abbrev pub decreases-loop-number : goal.decreases-loop-number
decreases-loop-number g l = l.board.total - bound_of l.seat.worker.claimed
