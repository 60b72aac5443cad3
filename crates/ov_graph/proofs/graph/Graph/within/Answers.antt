-- Nodes and links without a fault are a graph. Otherwise the first fault is returned.
use Rattle.std.proofs.Common.{◌≤◌, length, sym, subst, arith, rules}
use Rattle.ov_graph.specs.Links.{LinkGraph, IsGraph, most_of, most_of_any_graph}
use Rattle.ov_graph.specs.declared.size_limit.SizeLimit.{SizeLimit}
use Rattle.ov_graph.specs.declared.size_limit.SizeLimit.TheVariants.{Usual, Large}
use Rattle.ov_graph.proofs.EvenTest.Tested.{refused, out_of_memory, passed, graph_of}
use Rattle.ov_graph.proofs.graph.Graph.within.Goals as goal

within_any : (limit : SizeLimit) → most_of limit ≤ most_of_any_graph
within_any Usual = omega arith
within_any Large = omega arith

pub returns-in-Some-clause-judged : goal.returns-in-Some-clause-judged
returns-in-Some-clause-judged c =
    refused (most_of c.args.limit) c.args.nodes.now c.args.links.now c.in-Some.fault (search rules)

pub returns-in-Ok-clause-judged : goal.returns-in-Ok-clause-judged
returns-in-Ok-clause-judged c = passed (most_of c.args.limit) c.args.nodes.now c.args.links.now (search rules)

pub returns-in-Err-clause-judged : goal.returns-in-Err-clause-judged
returns-in-Err-clause-judged c = out_of_memory (most_of c.args.limit) c.args.nodes.now c.args.links.now (search rules)

pub of-requires-clause-graph : goal.of-requires-clause-graph
of-requires-clause-graph c = (graph_of (most_of c.args.limit) c.args.nodes.now c.args.links.now (search rules)).0

pub of-requires-clause-few : goal.of-requires-clause-few
of-requires-clause-few c =
    let few = (graph_of (most_of c.args.limit) c.args.nodes.now c.args.links.now (search rules)).1 in
    let most = within_any c.args.limit in
    omega (arith, few, most)

pub returns-in-Ok-clause-is_graph : goal.returns-in-Ok-clause-is_graph
returns-in-Ok-clause-is_graph c =
    subst IsGraph (sym c.in-Ok.ensures)
    (graph_of (most_of c.args.limit) c.args.nodes.now c.args.links.now (search rules)).0

pub returns-in-Ok-clause-within : goal.returns-in-Ok-clause-within
returns-in-Ok-clause-within c =
    subst (λ (g : LinkGraph). length g.nodes ≤ most_of c.args.limit) (sym c.in-Ok.ensures)
    (graph_of (most_of c.args.limit) c.args.nodes.now c.args.links.now (search rules)).1
