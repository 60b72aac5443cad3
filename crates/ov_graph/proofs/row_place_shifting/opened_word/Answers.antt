use Rattle.std.proofs.Common.{◌<◌, ◌-◌, arith}
use Rattle.ov_graph.specs.Row.{HasBit}
use Rattle.ov_graph.proofs.BitRows.Shifts.{word_before, opened_there, opened_after}
use Rattle.ov_graph.proofs.row_place_shifting.opened_word.Goals as goal

pub returns-then-word-at : goal.returns-then-word-at
returns-then-word-at c q e =
    let p = c.args.p in
    let row = c.args.row.now in
    word_before row p c.args.word q ((p < q) × HasBit row (q - 1)) c.if-word-at.true e
    (λ k. let l = k.0 in omega (arith, l))

pub returns-then-word-at-2 : goal.returns-then-word-at-2
returns-then-word-at-2 c q e = opened_there c.args.row.now c.args.p c.args.word c.parted.result q c.if-word-at-2.true e
    c.parted.ensures

pub returns : goal.returns
returns c q e =
    let l = c.if-word-at.false in
    let n = c.if-word-at-2.false in
    opened_after c.args.row.now c.args.p c.args.word c.up.result q (omega (arith, l, n))
    e c.up.ensures.first c.up.ensures.others
