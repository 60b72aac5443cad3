use Rattle.std.proofs.Common.{◌∙◌, ◌+◌, [], ℕ, arith, subst, sym}
use Rattle.std.proofs.lemmas.Bool.{both_ways}
use Rattle.ov_graph.proofs.EvenTest.Walks.{joined_end}
use Rattle.ov_articulations.specs.Articulations.{IsArticulation}
use Rattle.ov_articulations.proofs.Counting.{IsCounted, any_default, counted_all, counted_begun, counted_more, counted_past}
use Rattle.ov_articulations.proofs.Counting.{has_at}
use Rattle.ov_articulations.proofs.articulation_count.articulation_points.Goals as goal
use Rattle.ov_articulations.proofs.articulation_count.articulation_points.Goals.{then-is_point, else-is_point}

pub loop-node-init : goal.loop-node-init
loop-node-init c = counted_begun c.args.graph.now c.largest_of-largest.result.now

pub is_articulation-requires-clause-nodes : goal.is_articulation-requires-clause-nodes
is_articulation-requires-clause-nodes c x h =
    let g = c.args.graph.now in
    let is = c.largest_of-largest.ensures g c.requires c.in_ok-components.ensures in
    (joined_end g [] is.first x ((is.component.each x).0 h)).0

pub is_articulation-requires-clause-member : goal.is_articulation-requires-clause-member
is_articulation-requires-clause-member c =
    has_at c.largest_of-largest.result.now c.loop-node.node-index c.node-item.result c.loop-node-test.true
    c.node-item.is

pub overflow_add-count : goal.overflow_add-count
overflow_add-count c =
    let few = c.loop-node.invariant.few in
    let less = c.loop-node-test.true in
    let bound = c.largest_of-largest.type_inv.0 in
    omega (arith, few, less, bound)

pub loop-node-preserved : goal.loop-node-preserved
loop-node-preserved c =
    let g = c.args.graph.now in
    let xs = c.largest_of-largest.result.now in
    let k = c.loop-node.node-index in
    let is = c.largest_of-largest.ensures g c.requires c.in_ok-components.ensures in
    let same = c.node-item.is ∙ any_default xs k c.node-item.result 0 c.loop-node-test.true in
    elim c.if-is_point.branch [
      | then-is_point w ↦
          subst (λ (n : ℕ). IsCounted g xs (k + 1) n) (sym w.count-is)
          (counted_more g xs k c.loop-node.count is.component.ascend c.loop-node-test.true c.loop-node.invariant
          (subst (IsArticulation g xs) same (c.in_ok-is_point.ensures.0 w.if-is_point.true)))
      | else-is_point w ↦
          subst (λ (n : ℕ). IsCounted g xs (k + 1) n) (sym w.count-is)
          (counted_past g xs k c.loop-node.count c.loop-node.invariant
          (λ point. both_ways c.in_ok-is_point.is_point w.if-is_point.false
          (c.in_ok-is_point.ensures.1 (subst (IsArticulation g xs) (sym same) point))))
    ]

pub returns : goal.returns
returns c =
    let g = c.args.graph.now in
    counted_all g c.largest_of-largest.result.now c.loop-node.node-index c.loop-node.count
    (c.largest_of-largest.ensures g c.requires c.in_ok-components.ensures) c.loop-node-test.false c.loop-node.invariant
