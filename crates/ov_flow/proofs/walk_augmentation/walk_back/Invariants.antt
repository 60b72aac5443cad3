use Rattle.std.proofs.Common.{◌≡◌, reverse, length, ◌+◌, ◌-◌, ◌<◌, vec_len, vec_capacity}
use Rattle.ov_flow.proofs.Walking.{IsBranchOf}
use Rattle.ov_flow.proofs.walk_augmentation.walk_back.Given as goal

abbrev pub invariant-loop-at : goal.invariant-loop-at
invariant-loop-at g l = record {
  within : l.at < length l.tree.order.items;
  room : l.at + vec_len l.hops < length l.tree.order.items;
  same : vec_capacity l.hops ≡ vec_capacity l.fn.hops;
  branch : IsBranchOf l.tree l.at (length l.tree.order.items - 1) (reverse l.hops.items);
}

abbrev pub decreases-loop-at : goal.decreases-loop-at
decreases-loop-at g l = l.at
