use Rattle.std.proofs.Common.{◌*◌, ◌+◌, true≢false, sym, arith, rules}
use Rattle.ov_graph.proofs.BitRows.Bits.{agree_more, differ_here}
use Rattle.ov_graph.proofs.bit_rows.agree.Goals as goal

pub returns-then-a-word : goal.returns-then-a-word
returns-then-a-word g c =
    let word = c.loop-word.word in
    let l = c.loop-word-test.true in (
      (λ t. absurd (true≢false (sym t))),
      (λ same. absurd
          (c.if-a-word.true
          (differ_here c.args.a.now c.args.b.now word (search rules) (search rules)
          (λ i m. same (64 * word + i) (omega (arith, l, m)))))),
    )

pub loop-word-preserved : goal.loop-word-preserved
loop-word-preserved g c = agree_more c.args.a.now c.args.b.now c.loop-word.word c.if-a-word.false c.loop-word.invariant
