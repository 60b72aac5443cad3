-- One turn of the loop.
use Rattle.std.proofs.Common.{◌∙◌, not, sym, ap, arith}
use Rattle.ov_cert.proofs.EntryOrder.Looping.{turn_at, has_at}
use Rattle.ov_cert.proofs.entry_judging.check_pairs_of.Goals as goal

pub pair_flaw-requires-clause-i : goal.pair_flaw-requires-clause-i
pair_flaw-requires-clause-i c = (c.requires.earlier c.i-item.result
    (has_at c.args.earlier.now c.loop-i.i-index c.i-item.result c.loop-i-test.true c.i-item.is)).0

pub pair_flaw-requires-clause-differ : goal.pair_flaw-requires-clause-differ
pair_flaw-requires-clause-differ c = (c.requires.earlier c.i-item.result
    (has_at c.args.earlier.now c.loop-i.i-index c.i-item.result c.loop-i-test.true c.i-item.is)).1

pub loop-i-preserved : goal.loop-i-preserved
loop-i-preserved c =
    let t = turn_at c.args.graph.now c.args.k c.args.entries.now c.loop-i.next c.i-item.result c.args.j c.loop-i.i-index
    c.args.earlier.now c.loop-i-test.true c.i-item.is
    (sym c.are_linked.ensures ∙ c.if-are_linked.false)
    (sym c.pair_flaw.ensures.right ∙ ap not (sym c.is_some.ensures ∙ c.if-is_some.false)) in
    record {
      left = t.0 ∙ c.loop-i.invariant.left;
      count = let n = t.1 in let m = c.loop-i.invariant.count in omega (arith, n, m);
    }
