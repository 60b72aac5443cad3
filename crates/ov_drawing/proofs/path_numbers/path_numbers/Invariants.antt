-- what the map has, or else what the paths that are left have, is what all paths have
use Rattle.std.proofs.Common.{◌≡◌, ◌+◌, ◌<◌, ◌^◌, ℕ, length}
use Rattle.std.specs.BTreeMap.{get}
use Rattle.ov_drawing.specs.Code.PathTests.{link_cmp, or_later, path_from}
use Rattle.ov_drawing.proofs.path_numbers.path_numbers.Given as goal

abbrev pub invariant-loop-at : goal.invariant-loop-at
invariant-loop-at l = record {
  few : l.at + length l.path-iterator < 2 ^ 64;
  left : (k : ℕ × ℕ) → or_later (get link_cmp l.numbers k) (path_from l.at l.path-iterator k) ≡ path_from 0 l.paths k;
}
