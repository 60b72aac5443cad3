use Rattle.std.proofs.Common.{◌∙◌, ◌⊎◌, ℕ, length-set, arith, bit_or, slice_index}
use Rattle.std.proofs.lemmas.List.{length-replicate}
use Rattle.ov_graph.specs.Row.{HasBit}
use Rattle.ov_graph.proofs.BitRows.Bits.{word_more, no_word_of}
use Rattle.ov_shape.proofs.ShapeOfGraph.Counts.{either_bits}
use Rattle.ov_shape.proofs.place_sets.either.Goals as goal

pub loop-word-init : goal.loop-word-init
loop-word-init g c =
    let a = c.args.a.now in
    let b = c.args.b.now in
    let t = c.told-a in
    let wide = length-replicate {A = ℕ} g.row.W 0 in
    record { wide = omega (arith, t, wide); bits = no_word_of g.row.W (λ q. HasBit a q ⊎ HasBit b q) }

pub loop-word-preserved : goal.loop-word-preserved
loop-word-preserved g c =
    let a = c.args.a.now in
    let b = c.args.b.now in
    let word = c.loop-word.word in
    let wide = c.loop-word.invariant.wide in
    let t = c.told-a in
    let l = c.loop-word-test.true in
    let few = c.requires in
    let v = bit_or (slice_index a word) (slice_index b word) in
    record {
      wide = length-set c.loop-word.kept word v ∙ wide;
      bits = word_more c.loop-word.kept word v (λ q. HasBit a q ⊎ HasBit b q) (omega (arith, wide, t, l, few))
          c.loop-word.invariant.bits (λ q e. either_bits a b word q e);
    }

pub returns : goal.returns
returns g c p =
    let bits = c.loop-word.invariant.bits p in
    let in_use = c.loop-word.auto.word-end in
    let end = c.loop-word-test.false in (
      (λ h. let b = bits.0 h in let l = b.0 in (omega (arith, l, in_use), b.1)),
      (λ h. let l = h.0 in bits.1 (omega (arith, l, end), h.1)),
    )
