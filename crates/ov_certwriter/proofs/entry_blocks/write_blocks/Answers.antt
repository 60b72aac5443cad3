-- One more block was written; if the writer failed, the blocks before it and a prefix of it.
use Rattle.std.proofs.Common.{◌≡◌, ◌∙◌, ◌+◌, ◌*◌, ◌<◌, ◌||◌, ◌++◌, nat_lt, List, take, drop, length, slice_index_or}
use Rattle.std.proofs.Common.{rules, ap, subst, arith}
use Rattle.std.proofs.KnownBytes.{Appends-trans}
use Rattle.ov_io.specs.Device.{AppendsPrefixOf}
use Rattle.ov_certwriter.specs.declared.entry_blocks.Block.{Block}
use Rattle.ov_certwriter.specs.Code.Blocks.{items_after, block_text}
use Rattle.ov_certwriter.proofs.Filled.{part_more, some_right}
use Rattle.ov_certwriter.proofs.Sending.{sent_before, sent_behind}
use Rattle.ov_certwriter.proofs.entry_blocks.write_blocks.Goals as goal
use Rattle.ov_certwriter.proofs.entry_blocks.write_blocks.Goals.{After-write_all}

-- what stands behind what was written, and the part that the block holds
whole : (g : _) (c : After-write_all g)
    → (c.loop-block.invariant.sent.0 ++ c.first.result.now)
    ++ items_after g.T.Entry.as_data (nat_lt 0 (c.loop-block.block-index + 1) || c.args.later)
    (drop ((c.loop-block.block-index + 1) * c.args.blocks.now.size) c.args.entries.now)
    ≡ items_after g.T.Entry.as_data c.args.later c.args.entries.now
whole g c =
    let blocks = c.args.blocks.now in
    let i = c.loop-block.block-index in
    let block = c.block-item.result in
    let at = subst (λ (bs : List Block). block ≡ slice_index_or bs i block) c.deref-block-items.ensures.value
    c.block-item.is in
    let low = subst (λ (bs : List Block). i < length bs) c.deref-block-items.ensures.value
    c.loop-block-test.true in
    let part = c.first.ensures ∙ ap (λ ys. take block.filled ys) c.deref.ensures.value ∙ ap block_text at
    ∙ c.requires.parts i block low in
    part_more g.T.Entry.as_data c.args.later blocks.size i c.args.entries.now c.loop-block.invariant.sent.0
    c.first.result.now _ (some_right (length blocks.blocks.items) blocks.size blocks.some) part
    c.loop-block.invariant.sent.2

pub returns-in_err-write_all : goal.returns-in_err-write_all
returns-in_err-write_all g c =
    let sent = c.loop-block.invariant.sent in
    let all = whole g (goal.at.returns-in_err-write_all g c).After-write_all in
    record {
      bytes = search rules;
      prefix = subst (λ t. AppendsPrefixOf t (g.W.Write.contents c.args.sink.now.writer)
          (g.W.Write.contents c.write_all.new.self.writer)) all
          (sent_before _ _ _ _ (sent_behind _ _ _ _ _ sent.1 c.in_err-write_all.ensures.prefix));
      faults = search rules;
    }

pub loop-block-preserved : goal.loop-block-preserved
loop-block-preserved g c =
    let i = c.loop-block.invariant in
    record {
      sent = (
        i.sent.0 ++ c.first.result.now,
        Appends-trans _ _ _ _ _ i.sent.1 c.in_ok-write_all.ensures.bytes,
        whole g (goal.at.loop-block-preserved g c).After-write_all,
      );
      faults = omega (arith, c.in_ok-write_all.ensures.faults, i.faults);
    }
