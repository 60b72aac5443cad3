use Rattle.std.proofs.Common.{◌≡◌, ◌-◌, ◌≤◌, true, length}
use Rattle.ov_graph.specs.Row.{HasBit}
use Rattle.ov_split.specs.Places.{net_by_place}
use Rattle.ov_split.specs.Code.Residual.{IsTidy}
use Rattle.ov_flow.specs.Code.Walked.{table_of}
use Rattle.ov_flow.specs.Code.Held.{IsOpenWorkOf}
use Rattle.ov_flow.proofs.layered_walks.take_walks.Given as goal

abbrev pub invariant-loop-work : goal.invariant-loop-work
invariant-loop-work g l = record {
  work : IsOpenWorkOf l.net l.work;
  tidy : l.tidy ≡ true → IsTidy (table_of l.work.from) l.work.ends.items;
  source : HasBit l.work.layers.visited (net_by_place l.net).source;
  few : length l.work.ends.items ≤ l.level;
  more : length l.fn.work.ends.items ≤ length l.work.ends.items;
}

abbrev pub decreases-loop-work : goal.decreases-loop-work
decreases-loop-work g l = l.level - length l.work.ends.items
