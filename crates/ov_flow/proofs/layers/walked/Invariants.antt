use Rattle.std.proofs.Common.{◌<◌, length}
use Rattle.ov_graph.specs.Row.{HasBit}
use Rattle.ov_split.specs.Places.{net_by_place}
use Rattle.ov_flow.proofs.layers.walked.Given as goal

abbrev pub invariant-loop-at : goal.invariant-loop-at
invariant-loop-at g l = record {
  within : l.at < length l.tree.order.items;
  source : HasBit l.nodes (net_by_place l.net).source;
}

abbrev pub decreases-loop-at : goal.decreases-loop-at
decreases-loop-at g l = l.at
