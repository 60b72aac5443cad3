-- What the parts found is the shape.
use Rattle.std.proofs.Common.{arith}
use Rattle.ov_shape.proofs.ShapeOfGraph.Counts.{few_picked}
use Rattle.ov_shape.proofs.ShapeOfGraph.Shapes.{has_largest, has_diameter, has_mean_path}
use Rattle.ov_shape.proofs.graph_shape.shape_by_sets.Goals as goal

pub largest_component-best-requires : goal.largest_component-best-requires
largest_component-best-requires g c =
    let few = c.requires.few in (omega (arith, few), (c.requires.node, c.requires.room))

pub distances_within-all-requires : goal.distances_within-all-requires
distances_within-all-requires g c = (omega arith, (c.largest_component-best.ensures, c.requires.room))

pub mean-requires-clause-few : goal.mean-requires-clause-few
mean-requires-clause-few g c =
    let e = c.largest_component-best.ensures.counted in
    let l = few_picked c.largest_component-best.result.places 0 c.args.graph.now.nodes in
    let room = c.requires.room in
    let few = c.requires.few in
    omega (arith, e, l, room, few)

pub returns : goal.returns
returns g c =
    let h = c.args.graph.now in
    let best = c.largest_component-best.result in
    let found = c.largest_component-best.ensures in
    let all = c.distances_within-all in
    let degrees = c.in_ok-degrees.ensures in
    record {
      node = c.requires.node;
      largest = has_largest h best.places best.count found;
      clustering = c.clustering.ensures;
      path = has_mean_path h best.places best.count all.result.total c.mean.result found all.ensures.total
          c.mean.ensures.none c.mean.ensures.value;
      diameter = has_diameter h best.places best.count all.result.far found all.ensures.far;
      degree_25 = degrees.first;
      degree_50 = degrees.median;
      degree_75 = degrees.third;
    }
