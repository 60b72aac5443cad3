-- The judgement passes, so only out of memory is left.
use Rattle.std.proofs.Common.{◌≡◌, None, Some, arith, sym, subst}
use Rattle.std.specs.FinMap as map
use Rattle.ov_graph.specs.Links.{LinkGraph, most_of_any_graph}
use Rattle.ov_graph.proofs.EvenTest.Tested.{judged_refusal, no_fault}
use Rattle.ov_net.specs.Code.WorldGraph.{IsMutual}
use Rattle.ov_net.proofs.Links.Kept.{few_live}
use Rattle.ov_net.proofs.links_by_views.graph_of.Goals as goal

pub unreachable-requires : goal.unreachable-requires
unreachable-requires c =
    let g : LinkGraph = record { nodes = c.args.live.now; links = c.args.links.now } in
    let fault = c.in-Err.fault in
    let few = few_live c.args.nodes.now g c.requires.mutual in
    let most = c.requires.few in
    let none : Some fault ≡ None =
    no_fault most_of_any_graph g (Some fault) c.requires.mutual.graph (omega (arith, few, most))
    (judged_refusal most_of_any_graph g.nodes g.links fault c.in_default.not-OutOfMemory c.in-Err.ensures.judged) in
    absurd (cc)

pub returns-in-Ok : goal.returns-in-Ok
returns-in-Ok c =
    subst (IsMutual (map.get c.args.nodes.now)) (sym c.in-Ok.ensures.graph) c.requires.mutual
