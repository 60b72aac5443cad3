-- One word more, and all bits.
use Rattle.std.proofs.Common.{◌∙◌, ◌≡◌, ℕ, ◌*◌, ap, arith}
use Rattle.ov_shape.proofs.ShapeOfGraph.Counts.{bits, word_counted, all_counted}
use Rattle.ov_shape.proofs.place_sets.count.Goals as goal

pub loop-word-preserved : goal.loop-word-preserved
loop-word-preserved g c =
    let f = c.ones-bits.ensures.fits in
    let w = word_counted c.args.set.now c.loop-word.word f in
    let v = c.ones-bits.ensures.value in
    let o = c.ones-bits.ensures.few in
    let e = c.loop-word.invariant.counted in
    let l = c.loop-word.invariant.few in
    record { counted = omega (arith, w, v, e); few = omega (arith, o, l) }

pub returns : goal.returns
returns g c xs within few =
    let end = c.loop-word-test.false in
    let in_use = c.loop-word.auto.word-end in
    let e : c.loop-word.word ≡ c.args.words = omega (arith, end, in_use) in
    c.loop-word.invariant.counted ∙ ap (λ (i : ℕ). bits c.args.set.now 0 (64 * i)) e
    ∙ all_counted c.args.set.now xs c.args.words within few
