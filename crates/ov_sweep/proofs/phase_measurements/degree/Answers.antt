-- A node has few neighbours.
use Rattle.std.proofs.Common.{inl, arith}
use Rattle.ov_sweep.proofs.Degrees.{few_neighbours}
use Rattle.ov_sweep.proofs.phase_measurements.degree.Goals as goal

pub count-requires-clause-fits : goal.count-requires-clause-fits
count-requires-clause-fits c =
    let few = few_neighbours c.args.graph.now c.args.node c.neighbours.result c.neighbours.ensures.graph
    c.neighbours.ensures.neighbours in
    let within = c.nodes-nodes.ensures.within in
    inl (omega (arith, few, within))

pub overflow_cast-result : goal.overflow_cast-result
overflow_cast-result c =
    let few = few_neighbours c.args.graph.now c.args.node c.neighbours.result c.neighbours.ensures.graph
    c.neighbours.ensures.neighbours in
    let within = c.nodes-nodes.ensures.within in
    let bound = c.count.ensures.bound in
    omega (arith, few, within, bound)
