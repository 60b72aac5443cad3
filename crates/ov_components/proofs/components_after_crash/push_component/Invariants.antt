-- The ids that were pushed, and those whose bits are still to come, are those that the row picks.
use Rattle.std.proofs.Common.{◌≡◌, ◌++◌, ◌*◌, ◌-◌, ◌≤◌, drop}
use Rattle.ov_graph.specs.Row.{picked}
use Rattle.ov_components.proofs.components_after_crash.push_component.Given as goal

abbrev pub invariant-loop-place : goal.invariant-loop-place
invariant-loop-place g l = record {
  paths : l.lists.paths ≡ l.fn.lists.paths;
  ids : l.lists.begun ++ picked l.row l.next (drop l.next l.graph.nodes) ≡ picked l.row 0 l.graph.nodes;
  fits : l.next ≤ 64 * l.words;
}

abbrev pub decreases-loop-place : goal.decreases-loop-place
decreases-loop-place g l = 64 * l.words - l.next
