use Rattle.std.proofs.Common.{◌≡◌, ℕ, ◌-◌, ◌<◌, ◌≤◌, length, slice_index, Some}
use Rattle.ov_ids.specs.Members.{Has}
use Rattle.ov_graph.specs.Links.{Linked}
use Rattle.ov_graph.specs.Row.{HasBit}
use Rattle.ov_split.specs.Places.{net_by_place}
use Rattle.ov_flow.specs.Code.Reached.{IsGrown, IsClean}
use Rattle.ov_flow.specs.Code.Walked.{table_of}
use Rattle.ov_flow.specs.Code.Held.{HasTreeRoom}
use Rattle.ov_flow.proofs.path_search.search.Given as goal

abbrev pub invariant-loop-at : goal.invariant-loop-at
invariant-loop-at g l = record {
  grown : IsGrown (net_by_place l.net) (table_of l.from) l.tree;
  clean : IsClean (net_by_place l.net) l.tree;
  room : HasTreeRoom (length l.net.graph.nodes) l.tree;
  within : l.at ≤ length l.tree.order.items;
  links : (k w : ℕ) → k < l.at → Linked (net_by_place l.net).graph (slice_index l.tree.order.items k) w
      → HasBit l.tree.seen w;
  backs : (k u : ℕ) → k < l.at → table_of l.from (slice_index l.tree.order.items k) ≡ Some u
      → Has l.tree.order.items u;
}

abbrev pub decreases-loop-at : goal.decreases-loop-at
decreases-loop-at g l = length l.net.graph.nodes - l.at
