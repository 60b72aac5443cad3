use Rattle.std.proofs.Common.{◌≡◌, length}
use Rattle.ov_split.specs.Places.{net_by_place}
use Rattle.ov_flow.specs.Code.Walked.{table_of}
use Rattle.ov_flow.proofs.Copying.{IsCopying}
use Rattle.ov_flow.proofs.path_table.copy_path.Given as goal

abbrev pub invariant-loop-step : goal.invariant-loop-step
invariant-loop-step g l = record {
  long : length l.next ≡ length l.net.graph.nodes;
  copying : IsCopying (net_by_place l.net) (table_of l.from) (table_of l.fn.next) (table_of l.next) l.end l.at l.step;
}
