use Rattle.std.proofs.Common.{arith}
use Rattle.ov_graph.specs.Row.{HasBit}
use Rattle.ov_graph.proofs.BitRows.Bits.{shows_both, first_more, none_more}
use Rattle.ov_graph.proofs.neighbour_places.first_within.Goals as goal

pub returns-in-Some-clause-some : goal.returns-in-Some-clause-some
returns-in-Some-clause-some g c =
    let row = c.args.row.now in
    let set = c.args.set.now in
    let word = c.loop-word.word in
    let i = c.loop-word.invariant in
    first_more (λ q. HasBit row q × HasBit set q) c.args.from word c.loop-word.start _ c.in-Some.t
    (shows_both row set word) i.reached i.none c.in-Some.ensures.some

pub loop-word-preserved : goal.loop-word-preserved
loop-word-preserved g c =
    let row = c.args.row.now in
    let set = c.args.set.now in
    let word = c.loop-word.word in
    let i = c.loop-word.invariant in
    let reached = i.reached in
    let start = i.start in
    let none = none_more (λ q. HasBit row q × HasBit set q) c.args.from word c.loop-word.start _
    (shows_both row set word) i.none c.in_default.ensures.none in
    record { start = omega arith; reached = omega (arith, reached, start); none = λ q l m. none q l (omega (arith, m)) }
