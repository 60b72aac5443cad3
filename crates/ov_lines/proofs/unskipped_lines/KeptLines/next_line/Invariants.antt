-- the lines that are left and not skipped are still the same, and each line that was read has a byte of its own
use Rattle.std.proofs.Common.{◌≡◌, ◌<◌, ◌+◌, ◌^◌, length}
use Rattle.ov_lines.specs.Code.Kept.{lines_left}
use Rattle.ov_lines.proofs.unskipped_lines.KeptLines.next_line.Given as goal

abbrev pub invariant-loop-self : goal.invariant-loop-self
invariant-loop-self l =
    record {
      left : lines_left l.self-inside.count l.self-inside.rest.now ≡ l.fn.self;
      room : l.self-inside.count + length l.self-inside.rest.now < 2 ^ 64;
    }

abbrev pub decreases-loop-self : goal.decreases-loop-self
decreases-loop-self l = length l.self-inside.rest.now
