-- the items of the blocks so far, and how far the place is behind them
use Rattle.std.proofs.Common.{length, ◌-◌, ◌≡◌, ◌+◌, ◌≤◌, take}
use Rattle.ov_lists.specs.Code.Blocks.{joined}
use Rattle.ov_lists.proofs.block_sequence.find.Given as goal

abbrev pub invariant-loop-block : goal.invariant-loop-block
invariant-loop-block g l = record {
  within : l.block ≤ length l.blocks;
  place : l.place ≡ length (joined (take l.block l.blocks)) + l.rest;
}

abbrev pub decreases-loop-block : goal.decreases-loop-block
decreases-loop-block g l = length l.blocks - l.block
