-- One part more, or the fault of a part.
use Rattle.std.proofs.Common.{◌≡◌, ◌∙◌, ℕ, List, map, get_or, sym, ap, subst, arith}
use Rattle.std.proofs.lemmas.Bool.{both_ways}
use Rattle.std.proofs.lemmas.List.{length-map, get_or_default}
use Rattle.ov_graph.specs.Links.{LinkGraph, IsGraph, IsWithinLimit}
use Rattle.ov_graph.specs.Paths.{node_at}
use Rattle.ov_graph.specs.declared.bit_rows.TheConstants.{ALL_WORDS}
use Rattle.ov_graphfile.specs.Groups.{Means, IsNobodys, IsShared, IsGroupFault}
use Rattle.ov_graphfile.specs.declared.group_names_fault.GroupFault.TheVariants.{NamedTwice}
use Rattle.ov_graphfile.proofs.Meanings.{none_marked, marked_more, named_twice}
use Rattle.ov_graphfile.proofs.group_from_names_or_ids.marked_by.Goals as goal

pub loop-at-init : goal.loop-at-init
loop-at-init c = none_marked c.args.names.now (map (λ part. part.now) c.args.parts.now) ALL_WORDS

pub returns-in-Nobody-clause-fault : goal.returns-in-Nobody-clause-fault
returns-in-Nobody-clause-fault c =
    let long = length-map c.args.parts.now (λ part. part.now) in
    let within = c.loop-at-test.true in
    (omega (arith, long, within), subst (IsNobodys c.args.names.now) c.part_at-part.ensures c.in-Nobody.ensures)

pub returns-in-Several-clause-fault : goal.returns-in-Several-clause-fault
returns-in-Several-clause-fault c =
    let long = length-map c.args.parts.now (λ part. part.now) in
    let within = c.loop-at-test.true in
    (omega (arith, long, within), subst (IsShared c.args.names.now) c.part_at-part.ensures c.in-Several.ensures)

pub has-requires : goal.has-requires
has-requires c =
    let below = c.in-One.ensures.0 in
    let few = subst IsWithinLimit c.graph.ensures c.nodes-nodes.ensures.within in
    (omega arith, omega (arith, below, few))

pub put-requires : goal.put-requires
put-requires c =
    let below = c.in-One.ensures.0 in
    let few = subst IsWithinLimit c.graph.ensures c.nodes-nodes.ensures.within in
    (omega arith, omega (arith, below, few))

pub returns-then-has-clause-fault : goal.returns-then-has-clause-fault
returns-then-has-clause-fault c =
    let names = c.args.names.now in
    let parts = map (λ part. part.now) c.args.parts.now in
    let place = c.in-One.place in
    let below = c.in-One.ensures.0 in
    let node = c.index-nodes-place.result in
    let long = length-map c.args.parts.now (λ part. part.now) in
    let within = c.loop-at-test.true in
    let means = subst (λ (t : List ℕ). Means names t (node_at names.graph place)) c.part_at-part.ensures
    c.in-One.ensures.1 in
    let read : node ≡ get_or names.graph.nodes place node =
    subst (λ (xs : List ℕ). node ≡ get_or xs place node)
    (c.nodes-nodes.ensures.nodes ∙ ap (λ (h : LinkGraph). h.nodes) c.graph.ensures) c.index-nodes-place.is in
    subst (λ (n : ℕ). IsGroupFault names parts (NamedTwice n))
    (sym (read ∙ get_or_default names.graph.nodes place node 0 below))
    (named_twice names parts c.loop-at.row c.loop-at.at place c.loop-at.invariant (omega (arith, long, within)) means
    (c.has.ensures.0 c.if-has.true))

pub loop-at-preserved : goal.loop-at-preserved
loop-at-preserved c =
    let names = c.args.names.now in
    let parts = map (λ part. part.now) c.args.parts.now in
    let place = c.in-One.place in
    let long = length-map c.args.parts.now (λ part. part.now) in
    let within = c.loop-at-test.true in
    marked_more names parts c.loop-at.row c.put.new.row c.loop-at.at place
    (subst IsGraph c.graph.ensures c.nodes-nodes.ensures.graph) c.loop-at.invariant (omega (arith, long, within))
    c.in-One.ensures.0
    (subst (λ (t : List ℕ). Means names t (node_at names.graph place)) c.part_at-part.ensures
    c.in-One.ensures.1)
    (λ h. both_ways c.has.result c.if-has.false (c.has.ensures.1 h)) c.put.ensures
