-- the items so far are appended
use Rattle.std.proofs.Common.{◌≡◌, ◌+◌, ◌≤◌, ◌++◌, length}
use Rattle.ov_lists.proofs.block_list_with_fast_removal.BlockList.append_reserved.Given as goal

abbrev pub invariant-loop-item : goal.invariant-loop-item
invariant-loop-item g l = record {
  items : l.self.items ≡ l.fn.self.items ++ l.yielded;
  rest : l.yielded ++ l.item-iterator.rest.items ≡ l.fn.items.items;
  room : l.self.room + length l.yielded ≡ l.fn.self.room;
  fits : length l.fn.items.items ≤ l.fn.self.room;
}
