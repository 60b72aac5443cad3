-- The neighbours still to come, step by step.
use Rattle.std.proofs.Common.{◌∙◌, sym, drop, length, arith, rules}
use Rattle.ov_graph.proofs.BitRows.Bits.{few_words}
use Rattle.ov_graph.proofs.BitRows.Read.{next_picked, none_picked}
use Rattle.ov_graph.proofs.row_link_iterators.RowNeighboursIterator.next.Goals as goal

pub first_from-requires : goal.first_from-requires
first_from-requires c =
    let s = c.self.inside in
    let fits = few_words (length s.nodes.now) s.words c.self.invariant.0.few c.self.invariant.1 in
    (omega arith, (fits, omega (arith, fits)))

pub returns-in_err-place-clause-steps : goal.returns-in_err-place-clause-steps
returns-in_err-place-clause-steps c =
    let s = c.self.inside in
    let e = sym c.self.view_is ∙ none_picked s.row.now s.next (drop s.next s.nodes.now)
    (λ q l h. let w = c.self.invariant.0.within q h in let k = c.self.invariant.1.enough in
    c.in_err-place.ensures.none q l (omega (arith, w, k)) h) in
    rw c.from_residual.ensures (e, e)

pub returns-clause-steps : goal.returns-clause-steps
returns-clause-steps c =
    let s = c.self.inside in
    let first = c.in_ok-place.ensures.some in
    sym c.self.view_is ∙ next_picked s.row.now s.nodes.now s.next c.in_ok-place.place c.index-self-place.result first
    (c.self.invariant.0.within c.in_ok-place.place first.set)

pub returns-clause-goes : goal.returns-clause-goes
returns-clause-goes c = rw (returns-clause-steps c) (search rules)
