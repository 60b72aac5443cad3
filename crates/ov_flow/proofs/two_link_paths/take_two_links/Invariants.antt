-- The free targets of the row are free, and each used node was a target or comes before the next neighbour.
use Rattle.std.proofs.Common.{◌≡◌, ◌⊎◌, ◌-◌, ◌≤◌, ◌<◌, ℕ, length, Some}
use Rattle.ov_ids.specs.Members.{Has}
use Rattle.ov_graph.specs.Row.{HasBit}
use Rattle.ov_split.specs.Places.{net_by_place}
use Rattle.ov_flow.specs.Code.Walked.{table_of}
use Rattle.ov_flow.specs.Code.Held.{IsWorkOf, IsFreeTarget}
use Rattle.ov_flow.proofs.two_link_paths.take_two_links.Given as goal

abbrev pub invariant-loop-u : goal.invariant-loop-u
invariant-loop-u g l = record {
  work : IsWorkOf l.net l.work;
  few : length l.work.ends.items ≤ l.level;
  targets : (t : ℕ) → HasBit l.free t → IsFreeTarget (net_by_place l.net) (table_of l.work.from) t;
  behind : (v a : ℕ) → table_of l.work.from v ≡ Some a → Has (net_by_place l.net).targets v ⊎ (v < l.after);
  fits : l.after ≤ length l.net.graph.nodes;
}

abbrev pub decreases-loop-u : goal.decreases-loop-u
decreases-loop-u g l = length l.net.graph.nodes - l.after
