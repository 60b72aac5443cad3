-- One node more, and all of them.
use Rattle.std.proofs.Common.{◌≡◌, ◌<◌, ◌≤◌, ℕ, List, length, get_or, subst}
use Rattle.ov_cert.proofs.EntryOrder.Looping.{has_at}
use Rattle.ov_sweep.proofs.Degrees.{least_more, least_all}
use Rattle.ov_sweep.proofs.phase_measurements.least_degree.Goals as goal

pub degree-requires : goal.degree-requires
degree-requires c =
    let nodes = c.nodes-nodes.ensures.nodes in
    has_at c.args.graph.now.nodes c.loop-node.node-index c.node-item.result
    (subst (λ (ns : List ℕ). c.loop-node.node-index < length ns) nodes c.loop-node-test.true)
    (subst (λ (ns : List ℕ). c.node-item.result ≡ get_or ns c.loop-node.node-index c.node-item.result) nodes
    c.node-item.is)

pub loop-node-preserved : goal.loop-node-preserved
loop-node-preserved c =
    let nodes = c.nodes-nodes.ensures.nodes in
    let g = c.args.graph.now in
    let i = c.loop-node.node-index in
    let within = subst (λ (ns : List ℕ). i < length ns) nodes c.loop-node-test.true in
    let at = subst (λ (ns : List ℕ). c.node-item.result ≡ get_or ns i c.node-item.result) nodes c.node-item.is in
    let more = least_more g c.loop-node.least c.degree.result c.min-least.result i c.node-item.result
    c.nodes-nodes.ensures.graph c.min-least.ensures within at c.degree.ensures c.loop-node.invariant.reached
    (has_at g.nodes i c.node-item.result within at) c.loop-node.invariant.least in
    record { reached = more.0; least = more.1 }

pub returns : goal.returns
returns c =
    let end = subst (λ (ns : List ℕ). length ns ≤ c.loop-node.node-index) c.nodes-nodes.ensures.nodes
    c.loop-node-test.false in
    least_all c.args.graph.now c.loop-node.least c.loop-node.node-index end c.loop-node.invariant.reached
    c.loop-node.invariant.least
