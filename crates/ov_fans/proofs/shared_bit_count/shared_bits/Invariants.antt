-- the bits so far, which are no more than the places so far
use Rattle.std.proofs.Common.{◌≤◌, ◌*◌}
use Rattle.ov_fans.specs.Counts.{IsNumberOf}
use Rattle.ov_fans.proofs.RowScans.Counting.{IsShared}
use Rattle.ov_fans.proofs.shared_bit_count.shared_bits.Given as goal

abbrev pub invariant-loop-word : goal.invariant-loop-word
invariant-loop-word g l = record {
  few : l.bits ≤ 64 * l.word;
  shared : IsNumberOf (IsShared l.a l.b (64 * l.word)) l.bits;
}
