-- Each block has room for its part.
use Rattle.std.proofs.Common.{◌≡◌, ◌*◌, ◌<◌, List, rules, length, slice_index_or, subst, ap, arith}
use Rattle.ov_certwriter.specs.declared.entry_blocks.Block.{Block}
use Rattle.ov_certwriter.proofs.Filled.{part_fits, within_behind, product_up}
use Rattle.ov_certwriter.proofs.entry_blocks.fill_blocks.Goals as goal

pub for_each_mut-requires-clause-accepts : goal.for_each_mut-requires-clause-accepts
for_each_mut-requires-clause-accepts g c κs within i p low same =
    let blocks = c.args.blocks.now in
    let all = c.deref_mut.ensures.value in
    let inside = subst (λ (bs : List Block). i < length bs) all low in
    let at = subst (λ (bs : List Block). p.now ≡ slice_index_or bs i p.now) all same in
    let wide = blocks.wide i p.now inside in
    let place = product_up i (length blocks.blocks.items) blocks.size (omega (arith, inside)) in
    let part = part_fits g.T.Entry.paths_of blocks.room blocks.size _
    (within_behind g.T.Entry.paths_of blocks.room (i * blocks.size) c.args.entries.now c.requires.within) in (
      omega (arith, place, blocks.few),
      (omega (arith, part, wide, ap (λ (b : Block). length b.memory.items) at), search rules),
    )
