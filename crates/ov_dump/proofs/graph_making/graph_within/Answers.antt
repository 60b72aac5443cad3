-- The judgement passes, so only out of memory is left.
use Rattle.std.proofs.Common.{◌≡◌, None, Some}
use Rattle.ov_graph.specs.Links.{most_of}
use Rattle.ov_graph.proofs.EvenTest.Tested.{judged_refusal, no_fault}
use Rattle.ov_dump.proofs.graph_making.graph_within.Goals as goal

pub unreachable-requires : goal.unreachable-requires
unreachable-requires c =
    let most = most_of c.args.limit in
    let nodes = c.args.nodes.now in
    let links = c.args.links.now in
    let fault = c.in-Err.fault in
    let none : Some fault ≡ None =
    no_fault most (record { nodes = nodes; links = links }) (Some fault) c.requires.graph c.requires.few
    (judged_refusal most nodes links fault c.in_default.not-OutOfMemory c.in-Err.ensures.judged) in absurd (cc)
