-- The links still to come, step by step.
use Rattle.std.proofs.Common.{◌∙◌, sym, ℕ, ◌≤◌, length, arith, rules}
use Rattle.ov_graph.specs.Row.{HasBit}
use Rattle.ov_graph.specs.Code.Kept.{row_at}
use Rattle.ov_graph.proofs.BitRows.Bits.{few_words}
use Rattle.ov_graph.proofs.BitRows.Read.{next_link, next_row, no_link}
use Rattle.ov_graph.proofs.row_link_iterators.RowLinksIterator.next.Goals as goal

pub first_from-requires : goal.first_from-requires
first_from-requires c =
    let s = c.loop-self.self-inside in
    let fits = few_words (length s.nodes.now) s.words c.loop-self.invariant.kept.few c.loop-self.invariant.words in
    (omega arith, (fits, omega (arith, fits)))

pub returns-in-Some-clause-steps : goal.returns-in-Some-clause-steps
returns-in-Some-clause-steps c =
    let s = c.loop-self.self-inside in
    let i = c.loop-self.invariant in
    let q = c.in-Some.higher in
    let first = c.in-Some.ensures.some in
    sym i.left ∙ next_link s.nodes.now s.rows.now s.lower s.next q c.index-self-self.result c.index-self-higher.result
    first c.loop-self-test.true (i.kept.within s.lower q first.set)

pub returns-in-Some-clause-goes : goal.returns-in-Some-clause-goes
returns-in-Some-clause-goes c = rw (returns-in-Some-clause-steps c) (search rules)

pub loop-self-preserved : goal.loop-self-preserved
loop-self-preserved c =
    let s = c.loop-self.self-inside in
    let i = c.loop-self.invariant in
    let none : (q : ℕ) → s.next ≤ q → ¬ HasBit (row_at s.rows.now s.lower) q = λ q l h. let w =
    i.kept.within s.lower q h in let k = i.words.enough in c.in_default.ensures.none q l (omega (arith, w, k)) h in
    record {
      kept = i.kept;
      words = i.words;
      left = sym (next_row s.nodes.now s.rows.now s.lower s.next i.kept.each none) ∙ i.left;
    }

pub returns-clause-steps : goal.returns-clause-steps
returns-clause-steps c =
    let s = c.loop-self.self-inside in
    let i = c.loop-self.invariant in
    let e = no_link s.nodes.now s.rows.now s.lower s.next i.kept.each c.loop-self-test.false in
    (sym i.left ∙ e, e)
