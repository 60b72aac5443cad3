-- The neighbours still to come, step by step.
use Rattle.std.proofs.Common.{◌∙◌, sym}
use Rattle.ov_graph.proofs.PlaceLists.Reading.{one_node_taken, first_taken, rest_taken}
use Rattle.ov_graph.proofs.listed_link_iterators.ListedNeighboursIterator.next.Goals as goal

pub bounds-self-inside-place : goal.bounds-self-inside-place
bounds-self-inside-place c =
    let p = c.in_ok-place.field-0.now in
    c.self.invariant p (first_taken c.self.inside.places.now p c.in_ok-place.ensures.value)

pub invariant_of-self : goal.invariant_of-self
invariant_of-self c q h =
    c.self.invariant q
    (rest_taken c.self.inside.places.now c.in_ok-place.field-0.now c.in_ok-place.ensures.value q h)

pub returns-clause-steps : goal.returns-clause-steps
returns-clause-steps c =
    let s = c.self.inside in
    let p = c.in_ok-place.field-0.now in
    let value = c.in_ok-place.ensures.value in
    sym c.self.view_is ∙ one_node_taken s.nodes.now s.places.now p c.index-self-place.result value
    (c.self.invariant p (first_taken s.places.now p value))
