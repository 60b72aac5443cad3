-- the result for all paths is the result for the paths still left
use Rattle.std.proofs.Common.{◌≡◌, ◌+◌, ◌<◌, ◌^◌, length, [], ◌∷◌}
use Rattle.ov_cert.specs.Code.Flaws.{fan_paths_flaw}
use Rattle.ov_cert.proofs.path_judging.flaw_of_fan_by.Given as goal

abbrev pub invariant-loop-at : goal.invariant-loop-at
invariant-loop-at g l = record {
  graph : l.used.graph ≡ l.graph;
  few : l.at + length l.path-iterator < 2 ^ 64;
  left : fan_paths_flaw l.graph l.group l.used.members l.j l.at l.path-iterator ≡ fan_paths_flaw l.graph l.group
      (l.j ∷ []) l.j 0 l.paths;
}
