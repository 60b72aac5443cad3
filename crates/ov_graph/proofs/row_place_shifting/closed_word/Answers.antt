use Rattle.std.proofs.Common.{◌+◌, ◌≤◌, ◌≡◌, ◌↔◌, ℕ, subst, arith}
use Rattle.std.specs.Int.{bit_at}
use Rattle.ov_graph.specs.Row.{HasBit}
use Rattle.ov_graph.proofs.BitRows.Shifts.{word_before, closed_there, closed_after}
use Rattle.ov_graph.proofs.row_place_shifting.closed_word.Goals as goal

pub returns-then-word-at : goal.returns-then-word-at
returns-then-word-at c q e =
    let p = c.args.p in
    let row = c.args.row.now in
    word_before row p c.args.word q ((p ≤ q) × HasBit row (q + 1)) c.if-word-at.true e
    (λ k. let l = k.0 in omega (arith, l))

pub returns-then-word-at-2 : goal.returns-then-word-at-2
returns-then-word-at-2 c q e =
    let moved = c.down-moved.result in
    let last = subst (λ (after : ℕ). (bit_at moved 63 ≡ 1) ↔ (bit_at after 0 ≡ 1))
    c.word_after.ensures c.down-moved.ensures.last in
    closed_there c.args.row.now c.args.p c.args.word c.joined.result moved q c.if-word-at-2.true e last
    c.down-moved.ensures.others c.joined.ensures

pub returns : goal.returns
returns c q e =
    let moved = c.down-moved.result in
    let last = subst (λ (after : ℕ). (bit_at moved 63 ≡ 1) ↔ (bit_at after 0 ≡ 1))
    c.word_after.ensures c.down-moved.ensures.last in
    let l = c.if-word-at.false in
    let n = c.if-word-at-2.false in
    closed_after c.args.row.now c.args.p c.args.word moved q (omega (arith, l, n)) e last c.down-moved.ensures.others
