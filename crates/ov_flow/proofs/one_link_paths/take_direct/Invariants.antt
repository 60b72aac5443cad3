use Rattle.std.proofs.Common.{◌≡◌, ◌↔◌, ◌-◌, ◌≤◌, ◌<◌, ℕ, length, Some}
use Rattle.ov_ids.specs.Members.{Has}
use Rattle.ov_graph.specs.Links.{Linked}
use Rattle.ov_graph.specs.Row.{HasBit}
use Rattle.ov_split.specs.Places.{net_by_place}
use Rattle.ov_flow.specs.Code.Walked.{table_of}
use Rattle.ov_flow.specs.Code.Held.{IsWorkOf, IsOneLinkEach}
use Rattle.ov_flow.proofs.one_link_paths.take_direct.Given as goal

abbrev pub invariant-loop-w : goal.invariant-loop-w
invariant-loop-w g l = record {
  work : IsWorkOf l.net l.work;
  few : length l.work.ends.items ≤ l.level;
  count : length l.work.ends.items ≤ l.after;
  below : (v u : ℕ) → table_of l.work.from v ≡ Some u → v < l.after;
  one : IsOneLinkEach l.net l.work;
  bits : (q : ℕ) → HasBit l.far q ↔ (Has (net_by_place l.net).targets q × ¬ Has (net_by_place l.net).avoided q
      × ((q < l.after) → ¬ Linked (net_by_place l.net).graph (net_by_place l.net).source q));
  fits : l.after ≤ length l.net.graph.nodes;
}

abbrev pub decreases-loop-w : goal.decreases-loop-w
decreases-loop-w g l = length l.net.graph.nodes - l.after
