-- what the block has so far, and the lines of the file that are left to read
use Rattle.std.proofs.Common.{◌≡◌, length}
use Rattle.ov_scenario.specs.Code.RunnableLines.{stream_now}
use Rattle.ov_scenario.proofs.Scenarios.InBlock.{BlockLeft}
use Rattle.ov_scenario.proofs.block_reading.read_sections.Given as goal

abbrev pub invariant-loop-next : goal.invariant-loop-next
invariant-loop-next l =
    record {
      taken :
          BlockLeft l.fn.left (stream_now l.fn.draws) l.rest (stream_now l.draws) l.block.given l.block.ended.items
          l.block.held.items;
      same : l.left ≡ l.rest;
    }

abbrev pub decreases-loop-next : goal.decreases-loop-next
decreases-loop-next l = length l.rest
