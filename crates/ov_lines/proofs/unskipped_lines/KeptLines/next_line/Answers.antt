-- A line that is skipped leaves the lines that are left as they are, one that is not is the first of them, and without
-- bytes there is none.
use Rattle.std.proofs.Common.{rules}
use Rattle.ov_lines.specs.Code.Kept.{lines_left}
use Rattle.ov_lines.proofs.Lines.Kept.{skipped, kept, none_left}
use Rattle.ov_lines.proofs.unskipped_lines.KeptLines.next_line.Goals as goal

pub returns-then-not-is_skipped : goal.returns-then-not-is_skipped
unfolding lines_left
returns-then-not-is_skipped c = search (rules, kept)

pub loop-self-preserved : goal.loop-self-preserved
unfolding lines_left
loop-self-preserved c = search (rules, skipped)

pub returns : goal.returns
unfolding lines_left
returns c = search (rules, none_left)
