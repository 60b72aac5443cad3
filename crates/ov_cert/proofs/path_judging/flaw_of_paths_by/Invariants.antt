-- the result for all paths is the result for the paths still left
use Rattle.std.proofs.Common.{◌≡◌, ◌+◌, ◌<◌, ◌^◌, length, [], ◌∷◌}
use Rattle.ov_ids.specs.Sets.{adding}
use Rattle.ov_cert.specs.Code.Flaws.{pair_paths_flaw}
use Rattle.ov_cert.proofs.path_judging.flaw_of_paths_by.Given as goal

abbrev pub invariant-loop-at : goal.invariant-loop-at
invariant-loop-at g l = record {
  graph : l.used.graph ≡ l.graph;
  few : l.at + length l.path-iterator < 2 ^ 64;
  left : pair_paths_flaw l.graph l.used.members l.i l.j l.at l.path-iterator ≡ pair_paths_flaw l.graph
      (adding l.j (l.i ∷ [])) l.i l.j 0 l.paths;
}
