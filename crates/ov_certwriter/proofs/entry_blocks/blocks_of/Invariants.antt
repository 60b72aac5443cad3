-- the blocks so far
use Rattle.std.proofs.Common.{◌≡◌, ◌≤◌, ◌<◌, ◌^◌, length, vec_capacity}
use Rattle.ov_certwriter.specs.Code.Blocks.{HaveRoom}
use Rattle.ov_certwriter.proofs.entry_blocks.blocks_of.Given as goal

abbrev pub invariant-loop : goal.invariant-loop
invariant-loop l = record {
  count : length l.blocks.items ≡ l.counter;
  space : l.count ≤ vec_capacity l.blocks;
  room : HaveRoom l.bytes l.blocks.items;
  small : 0 < l.counter → l.bytes < 2 ^ 63;
}
