use Rattle.std.proofs.Common.{◌∙◌, length-set, arith}
use Rattle.ov_graph.specs.Code.Shifts.{HasClosed}
use Rattle.ov_graph.proofs.BitRows.Bits.{word_more, no_word_yet}
use Rattle.ov_graph.proofs.row_place_shifting.closed.Goals as goal

pub loop-word-init : goal.loop-word-init
loop-word-init c = let t = c.told-row in record {
  wide = omega (arith, t);
  bits = no_word_yet (HasClosed c.args.row.now c.args.p);
}

pub loop-word-preserved : goal.loop-word-preserved
loop-word-preserved c =
    let word = c.loop-word.word in
    let wide = c.loop-word.invariant.wide in
    let t = c.told-row in
    let l = c.loop-word-test.true in
    let few = c.requires in
    let v = c.closed_word.result in
    record {
      wide = length-set c.loop-word.made word v ∙ wide;
      bits = word_more c.loop-word.made word v (HasClosed c.args.row.now c.args.p) (omega (arith, wide, t, l, few))
          c.loop-word.invariant.bits c.closed_word.ensures;
    }

pub returns : goal.returns
returns c p =
    let bits = c.loop-word.invariant.bits p in
    let in_use = c.loop-word.auto.word-end in
    let end = c.loop-word-test.false in (
      (λ h. let b = bits.0 h in let l = b.0 in (omega (arith, l, in_use), b.1)),
      (λ h. let l = h.0 in bits.1 (omega (arith, l, end), h.1)),
    )
