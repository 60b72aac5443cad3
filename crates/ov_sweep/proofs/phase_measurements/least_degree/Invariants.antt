-- Some node has as many neighbours as the least so far, and no node so far has fewer.
use Rattle.std.proofs.Common.{◌<◌, ◌≤◌, ℕ, get_or}
use Rattle.ov_ids.specs.Members.{Has}
use Rattle.ov_sweep.specs.Rows.{HasDegree}
use Rattle.ov_sweep.proofs.phase_measurements.least_degree.Given as goal

abbrev pub invariant-loop-node : goal.invariant-loop-node
invariant-loop-node l = record {
  reached : (a : ℕ) × Has l.fn.graph.nodes a × HasDegree l.fn.graph a l.least;
  least : (i m : ℕ) → i < l.node-index → HasDegree l.fn.graph (get_or l.fn.graph.nodes i 0) m → l.least ≤ m;
}
