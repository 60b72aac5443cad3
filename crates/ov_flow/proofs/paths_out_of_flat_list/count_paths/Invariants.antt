use Rattle.std.proofs.Common.{◌≡◌, ◌+◌, ◌≤◌, [], length, drop}
use Rattle.ov_flow.specs.Code.Flat.{paths_after, paths_in}
use Rattle.ov_flow.proofs.paths_out_of_flat_list.count_paths.Given as goal

abbrev pub invariant-loop-place : goal.invariant-loop-place
invariant-loop-place l = record {
  fits : l.count ≤ l.place-index;
  left : l.count + length (paths_after l.source [] (drop l.place-index l.flat)) ≡ length (paths_in l.flat);
}
