use Rattle.std.proofs.Common.{◌≡◌, take, length}
use Rattle.ov_split.specs.Places.{net_by_place}
use Rattle.ov_flow.specs.Code.Walked.{table_of}
use Rattle.ov_flow.proofs.Copying.{IsCopy}
use Rattle.ov_flow.proofs.path_table.retrace.Given as goal

abbrev pub invariant-loop-end : goal.invariant-loop-end
invariant-loop-end g l = record {
  long : length l.next ≡ length l.net.graph.nodes;
  copy : IsCopy (net_by_place l.net) (table_of l.from) (table_of l.next) (take l.end-index l.ends);
}
