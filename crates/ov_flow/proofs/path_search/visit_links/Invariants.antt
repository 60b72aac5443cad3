use Rattle.std.proofs.Common.{◌-◌, ◌≤◌, length}
use Rattle.ov_split.specs.Places.{net_by_place}
use Rattle.ov_flow.specs.Code.Walked.{table_of}
use Rattle.ov_flow.specs.Code.Held.{HasTreeRoom}
use Rattle.ov_flow.proofs.Visiting.{IsVisiting}
use Rattle.ov_flow.proofs.path_search.visit_links.Given as goal

abbrev pub invariant-loop-w : goal.invariant-loop-w
invariant-loop-w g l = record {
  visiting : IsVisiting (net_by_place l.net) (table_of l.from) l.fn.tree l.tree l.x l.after;
  room : HasTreeRoom (length l.net.graph.nodes) l.tree;
  fits : l.after ≤ length l.net.graph.nodes;
}

abbrev pub decreases-loop-w : goal.decreases-loop-w
decreases-loop-w g l = length l.net.graph.nodes - l.after
