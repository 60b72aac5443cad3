-- As many places as the set of its neighbours has are its degree.
use Rattle.std.proofs.Common.{arith}
use Rattle.ov_graph.specs.Paths.{node_at}
use Rattle.ov_shape.proofs.ShapeOfGraph.Clusters.{degree_of}
use Rattle.ov_shape.proofs.degree_quartiles.degree_at.Goals as goal

pub neighbour_set-neighbours-requires : goal.neighbour_set-neighbours-requires
neighbour_set-neighbours-requires g c =
    let few = c.requires.few in (omega (arith, few), (c.requires.place, c.requires.room))

pub returns : goal.returns
returns g c =
    let h = c.args.graph.now in
    degree_of h (node_at h c.args.place) c.count.result c.words_in_use.result c.neighbour_set-neighbours.result
    c.words_in_use.ensures.graph c.words_in_use.ensures.words.enough c.neighbour_set-neighbours.ensures.set
    c.count.ensures
