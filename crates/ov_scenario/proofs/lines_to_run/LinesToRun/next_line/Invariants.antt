-- what is still to run, by the lines of the file that are left to read, which all can be read, and nothing was taken
use Rattle.std.proofs.Common.{◌≡◌, length}
use Rattle.ov_scenario.specs.RunLines.{those_that_run}
use Rattle.ov_scenario.specs.Statements.{told}
use Rattle.ov_scenario.specs.Code.RunnableLines.{AreReadable, stream_now, to_run}
use Rattle.ov_scenario.proofs.Scenarios.Asked.{StillLeft}
use Rattle.ov_scenario.proofs.lines_to_run.LinesToRun.next_line.Given as goal

abbrev pub invariant-loop-number : goal.invariant-loop-number
invariant-loop-number l =
    record {
      left : StillLeft l.fn.self.items l.fn.self.file_lines (stream_now l.self-inside.draws) l.given l.left;
      readable : AreReadable l.left;
      kept : AreReadable l.self-inside.left;
      same : record {
        items = to_run (stream_now l.self-inside.draws) (told l.self-inside.left);
        file_lines = those_that_run l.self-inside.left;
      } ≡ l.fn.self;
    }

abbrev pub decreases-loop-number : goal.decreases-loop-number
decreases-loop-number l = length l.left
