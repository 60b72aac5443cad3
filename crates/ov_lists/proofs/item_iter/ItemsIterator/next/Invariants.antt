-- no item is passed over
use Rattle.std.proofs.Common.{◌≡◌, ◌++◌, length}
use Rattle.ov_lists.specs.Code.Blocks.{joined}
use Rattle.ov_lists.proofs.item_iter.ItemsIterator.next.Given as goal

abbrev pub invariant-loop-block : goal.invariant-loop-block
invariant-loop-block g l =
    l.self-inside.now.now ++ (joined l.self-inside.blocks.now ++ l.self-inside.last.now)
    ≡ l.initial.self-inside.now.now ++ (joined l.initial.self-inside.blocks.now ++ l.initial.self-inside.last.now)

abbrev pub decreases-loop-block : goal.decreases-loop-block
decreases-loop-block g l = length l.self-inside.blocks.now
