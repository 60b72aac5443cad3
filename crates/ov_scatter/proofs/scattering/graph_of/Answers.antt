-- The judgement passes, so only out of memory is left.
use Rattle.std.proofs.Common.{◌≡◌, None, Some}
use Rattle.ov_graph.specs.Links.{most_of_any_graph}
use Rattle.ov_graph.proofs.EvenTest.Tested.{judged_refusal, no_fault}
use Rattle.ov_scatter.proofs.Copied.{the_graph}
use Rattle.ov_scatter.proofs.scattering.graph_of.Goals as goal

pub unreachable-requires : goal.unreachable-requires
unreachable-requires c =
    let nodes = c.args.nodes.now in
    let links = c.args.links.now in
    let fault = c.in-Err.fault in
    let none : Some fault ≡ None =
    no_fault most_of_any_graph (the_graph nodes links) (Some fault) c.requires.graph c.requires.few
    (judged_refusal most_of_any_graph nodes links fault c.in_default.not-OutOfMemory c.in-Err.ensures.judged) in
    absurd (cc)
