-- as many blocks are made as turns are over
use Rattle.std.proofs.Common.{◌≡◌, ◌+◌, ◌≤◌, length}
use Rattle.std.specs.List.{AllByRecursion}
use Rattle.ov_lists.specs.Code.Blocks.{IsSpare}
use Rattle.ov_lists.proofs.block_sequence.add_spare.Given as goal

abbrev pub invariant-loop : goal.invariant-loop
invariant-loop g l = record {
  empty : AllByRecursion IsSpare l.spare.items;
  turns : l.counter ≤ l.count;
  made : length l.spare.items ≡ length l.fn.spare.items + l.counter;
  memory : l.spare.cap ≡ l.fn.spare.cap;
}
