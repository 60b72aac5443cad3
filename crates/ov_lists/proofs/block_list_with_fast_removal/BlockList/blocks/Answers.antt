-- Dense blocks are few.
use Rattle.std.proofs.Common.{length, length-append, ap, arith}
use Rattle.ov_lists.specs.Listed.{Listed}
use Rattle.ov_lists.specs.Code.Blocks.{joined}
use Rattle.ov_lists.proofs.Density.{few_blocks}
use Rattle.ov_lists.proofs.block_list_with_fast_removal.BlockList.blocks.Goals as goal

pub returns-clause-few : goal.returns-clause-few
returns-clause-few g c =
    let l = c.self.inside in
    let few = few_blocks l.full.items c.self.invariant.dense in
    let count = ap (λ (q : Listed g.row.T.Denot). length q.items) c.self.view_is in
    let parts = length-append (joined l.full.items) l.last.items in
    let blocks = ap (λ (q : Listed g.row.T.Denot). q.blocks) c.self.view_is in
    omega (arith, few, count, parts, blocks)
