-- One common neighbour more, and all.
use Rattle.std.proofs.Common.{arith}
use Rattle.ov_shape.proofs.ShapeOfGraph.Clusters.{common_begun, common_more, common_all, common_few}
use Rattle.ov_shape.proofs.clustering_coefficient.linked_within.Goals as goal

pub next_within-requires : goal.next_within-requires
next_within-requires g c = (omega arith, (c.requires.place, c.requires.room))

pub overflow_add-shared : goal.overflow_add-shared
overflow_add-shared g c =
    let first = c.in-Some.ensures.some in
    let l = first.holds.0.0 in
    let reached = first.reached in
    let few = c.common.invariant.few in
    let within = c.nodes.ensures.within in
    omega (arith, l, reached, few, within)

pub overflow_add-after : goal.overflow_add-after
overflow_add-after g c =
    let l = c.in-Some.ensures.some.holds.0.0 in
    let within = c.nodes.ensures.within in
    omega (arith, l, within)

pub common-init : goal.common-init
common-init g c = record {
  common = common_begun c.args.graph.now c.args.place c.args.set.now;
  few = omega arith;
  fits = omega arith;
}

pub common-preserved : goal.common-preserved
common-preserved g c =
    let first = c.in-Some.ensures.some in
    let l = first.holds.0.0 in
    let reached = first.reached in
    let few = c.common.invariant.few in
    record {
      common = common_more c.args.graph.now c.args.place c.args.set.now c.common.after c.common.shared c.in-Some.q
          c.in-Some.ensures.graph first c.common.invariant.common;
      few = omega (arith, few, reached);
      fits = omega (arith, l);
    }

pub returns-clause-common : goal.returns-clause-common
returns-clause-common g c a of_a =
    common_all c.args.graph.now a c.args.place c.args.set.now c.common.after c.common.shared c.in_default.ensures.graph
    c.in_default.ensures.none c.common.invariant.common of_a

pub returns-clause-few : goal.returns-clause-few
returns-clause-few g c own =
    common_few c.args.graph.now c.args.place c.args.set.now c.common.after c.common.shared c.in_default.ensures.graph
    c.requires.place c.common.invariant.common own
