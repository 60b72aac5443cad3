use Rattle.std.proofs.Common.{arith}
use Rattle.ov_graph.specs.Row.{HasBit}
use Rattle.ov_graph.proofs.BitRows.Bits.{shows_row, first_more, none_more}
use Rattle.ov_graph.proofs.bit_rows.first_from.Goals as goal

pub returns-in-Some-clause-some : goal.returns-in-Some-clause-some
returns-in-Some-clause-some g c =
    let row = c.args.row.now in
    let i = c.loop-word.invariant in
    let first = first_more (HasBit row) c.args.from c.loop-word.word c.loop-word.start _ c.in-Some.t
    (shows_row row c.loop-word.word) i.reached i.none c.in-Some.ensures.some in
    record { reached = first.reached; set = first.holds; first = first.first }

pub loop-word-preserved : goal.loop-word-preserved
loop-word-preserved g c =
    let row = c.args.row.now in
    let i = c.loop-word.invariant in
    let reached = i.reached in
    let start = i.start in
    let none = none_more (HasBit row) c.args.from c.loop-word.word c.loop-word.start _ (shows_row row c.loop-word.word)
    i.none c.in_default.ensures.none in
    record { start = omega arith; reached = omega (arith, reached, start); none = λ q l m. none q l (omega (arith, m)) }
