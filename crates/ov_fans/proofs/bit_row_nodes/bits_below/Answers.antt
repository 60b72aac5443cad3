-- Word by word, and the last one in part.
use Rattle.std.proofs.Common.{◌∙◌, ◌≡◌, ◌↔◌, ◌*◌, ◌/◌, ◌<◌, ℕ, length-set, slice_index, arith}
use Rattle.std.proofs.lemmas.List.{length-replicate}
use Rattle.std.proofs.lemmas.Nat.{div-add-mod', mod_below}
use Rattle.ov_graph.specs.Row.{HasBit}
use Rattle.ov_graph.proofs.BitRows.Bits.{word_more, no_word_of}
use Rattle.ov_fans.proofs.RowScans.Lower.{word_bit, last_bit}
use Rattle.ov_fans.proofs.bit_row_nodes.bits_below.Goals as goal

pub loop-word-init : goal.loop-word-init
loop-word-init g c =
    let t = c.told-row in
    let r = length-replicate {A = ℕ} g.row.W 0 in
    record { wide = omega (arith, t, r); bits = no_word_of g.row.W (λ q. HasBit c.args.row.now q) }

pub loop-word-preserved : goal.loop-word-preserved
loop-word-preserved g c =
    let row = c.args.row.now in
    let word = c.loop-word.word in
    let wide = c.loop-word.invariant.wide in
    let t = c.told-row in
    let l = c.loop-word-test.true in
    let few = c.requires in
    let v = slice_index row word in
    record {
      wide = length-set c.loop-word.kept word v ∙ wide;
      bits = word_more c.loop-word.kept word v (λ q. HasBit row q) (omega (arith, wide, t, l, few))
          c.loop-word.invariant.bits (λ q e. word_bit row word q e);
    }

pub returns : goal.returns
returns g c q =
    let row = c.args.row.now in
    let p = c.args.p in
    let wide = c.loop-word.invariant.wide in
    let t = c.told-row in
    let few = c.requires in
    let reached : c.loop-word.word ≡ p / 64 =
    let a = c.loop-word.auto.word-end in let b = c.loop-word-test.false in omega (arith, a, b) in
    let before : (r : ℕ) → HasBit c.loop-word.kept r ↔ ((r < 64 * (p / 64)) × ((r < p) × HasBit row r)) =
    λ r.
    let i = c.loop-word.invariant.bits r in
    let d = div-add-mod' p 64 in (
      (λ h. let k = i.0 h in let m = k.0 in
          (omega (arith, m, reached), (omega (arith, m, reached, d), k.1))),
      (λ h. let m = h.0 in i.1 (omega (arith, m, reached), h.1.1)),
    )
    in
    let all = word_more c.loop-word.kept (p / 64) c.low_bits.result (λ r. (r < p) × HasBit row r)
    (omega (arith, wide, t, few)) before (λ r e. last_bit row p c.low_bits.result r c.low_bits.ensures e) q in (
      (λ h. (all.0 h).1),
      (λ h.
          let d = div-add-mod' p 64 in
          let m = mod_below p 64 (omega arith) in
          let l = h.0 in all.1 (omega (arith, d, m, l), h)),
    )
