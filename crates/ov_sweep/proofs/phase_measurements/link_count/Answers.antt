-- A graph has few links.
use Rattle.std.proofs.Common.{ℕ, List, ap, length, inl, arith}
use Rattle.ov_sweep.proofs.Fitting.{links_counted}
use Rattle.ov_sweep.proofs.phase_measurements.link_count.Goals as goal

pub count-requires-clause-fits : goal.count-requires-clause-fits
count-requires-clause-fits c =
    let few = links_counted c.args.graph.now c.links.ensures.graph c.nodes-nodes.ensures.within in
    let all = c.links.ensures.links in
    inl (rw all (omega (arith, few)))

pub overflow_cast-result : goal.overflow_cast-result
overflow_cast-result c =
    let few = links_counted c.args.graph.now c.links.ensures.graph c.nodes-nodes.ensures.within in
    let all = c.links.ensures.links in
    let bound = c.count.ensures.bound in
    omega (arith, few, bound, ap (λ (l : List (ℕ × ℕ)). length l) all)
