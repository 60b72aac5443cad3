use Rattle.std.proofs.Common.{◌∙◌, ℕ, length-set, arith, slice_index}
use Rattle.std.proofs.lemmas.List.{length-replicate}
use Rattle.ov_graph.specs.Row.{HasBit}
use Rattle.ov_graph.proofs.BitRows.Bits.{word_more, no_word_of, same_bits}
use Rattle.ov_graph.proofs.neighbour_places.widened.Goals as goal

pub loop-word-init : goal.loop-word-init
loop-word-init g c =
    record { wide = length-replicate {A = ℕ} g.row.W 0; bits = no_word_of g.row.W (HasBit c.args.row.now) }

pub loop-word-preserved : goal.loop-word-preserved
loop-word-preserved g c =
    let row = c.args.row.now in
    let word = c.loop-word.word in
    let wide = c.loop-word.invariant.wide in
    let l = c.loop-word-test.true in
    let few = c.requires.set in
    let v = slice_index row word in
    record {
      wide = length-set c.loop-word.set word v ∙ wide;
      bits = word_more c.loop-word.set word v (HasBit row) (omega (arith, wide, l, few)) c.loop-word.invariant.bits
          (same_bits row word);
    }

pub returns : goal.returns
returns g c p =
    let bits = c.loop-word.invariant.bits p in
    let in_use = c.loop-word.auto.word-end in
    let end = c.loop-word-test.false in (
      (λ h. let b = bits.0 h in let l = b.0 in (omega (arith, l, in_use), b.1)),
      (λ h. let l = h.0 in bits.1 (omega (arith, l, end), h.1)),
    )
