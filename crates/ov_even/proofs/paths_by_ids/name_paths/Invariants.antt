-- The pieces so far are named, and there is room for all.
use Rattle.std.proofs.Common.{◌≡◌, ◌≤◌, length, map, take, vec_capacity}
use Rattle.ov_even.specs.Naming.{named_of}
use Rattle.ov_even.proofs.paths_by_ids.name_paths.Given as goal

abbrev pub invariant-loop-piece : goal.invariant-loop-piece
invariant-loop-piece l = record {
  named : l.named.items ≡ map (named_of l.graph l.group) (take l.piece-index l.found);
  room : length l.found ≤ vec_capacity l.named;
}
