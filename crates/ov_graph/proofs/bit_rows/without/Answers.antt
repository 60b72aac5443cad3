use Rattle.std.proofs.Common.{◌∙◌, length-set, ℕ, arith}
use Rattle.std.proofs.lemmas.List.{length-replicate}
use Rattle.ov_graph.specs.Row.{HasBit}
use Rattle.ov_graph.proofs.BitRows.Bits.{word_more, no_word_of, bits_without}
use Rattle.ov_graph.proofs.bit_rows.without.Goals as goal

pub loop-word-init : goal.loop-word-init
loop-word-init g c =
    let a = c.args.a.now in
    let b = c.args.b.now in
    let t = c.told-a in
    record { wide = omega (arith, t, length-replicate {A = ℕ} g.row.W 0); bits = no_word_of g.row.W (λ q. HasBit a q × ¬ HasBit b q) }

pub loop-word-preserved : goal.loop-word-preserved
loop-word-preserved g c =
    let a = c.args.a.now in
    let b = c.args.b.now in
    let word = c.loop-word.word in
    let wide = c.loop-word.invariant.wide in
    let t = c.told-a in
    let l = c.loop-word-test.true in
    let few = c.requires in
    let v = c.minus.result in
    record {
      wide = length-set c.loop-word.kept word v ∙ wide;
      bits = word_more c.loop-word.kept word v (λ q. HasBit a q × ¬ HasBit b q) (omega (arith, wide, t, l, few))
          c.loop-word.invariant.bits (λ q e. bits_without a b word v q c.minus.ensures e);
    }

pub returns : goal.returns
returns g c p =
    let bits = c.loop-word.invariant.bits p in
    let in_use = c.loop-word.auto.word-end in
    let end = c.loop-word-test.false in (
      (λ h. let b = bits.0 h in let l = b.0 in (omega (arith, l, in_use), b.1.0, b.1.1)),
      (λ h. let l = h.0 in bits.1 (omega (arith, l, end), (h.1, h.2))),
    )
