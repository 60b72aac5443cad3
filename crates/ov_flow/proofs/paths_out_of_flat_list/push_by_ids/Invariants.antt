use Rattle.std.proofs.Common.{◌≡◌, ◌++◌, ◌<◌, ℕ, length, map, reverse, slice_index}
use Rattle.ov_ids.specs.Members.{Has}
use Rattle.ov_flow.proofs.paths_out_of_flat_list.push_by_ids.Given as goal

abbrev pub invariant-loop-place : goal.invariant-loop-place
invariant-loop-place l = record {
  below : (p : ℕ) → Has l.left p → p < length l.nodes;
  paths : l.paths.paths ≡ l.fn.paths.paths;
  ids : l.paths.begun ++ map (λ p. slice_index l.nodes p) (reverse l.left)
      ≡ map (λ p. slice_index l.nodes p) (reverse l.path);
}

abbrev pub decreases-loop-place : goal.decreases-loop-place
decreases-loop-place l = length l.left
