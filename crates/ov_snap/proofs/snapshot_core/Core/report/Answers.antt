-- The graph of a moment is one, so a report of all nodes is that of the group of the snapshot's nodes.
use Rattle.std.proofs.Common.{◌∙◌, ap}
use Rattle.ov_graph.specs.Links.{LinkGraph}
use Rattle.ov_snap.proofs.Keeping.{if_both, if_none, none_of_all, none_without, of_all}
use Rattle.ov_snap.proofs.snapshot_core.Core.report.Goals as goal

pub returns-in-Ok-clause-some : goal.returns-in-Ok-clause-some
returns-in-Ok-clause-some c =
    let g : LinkGraph = c.in-Ok.snapshot.now.graph in
    if_both _ _ _ c.group_report.result
    (λ r. of_all c.args.self.now c.args.moment g c.nodes.result.now r.now c.in-Ok.ensures.ok.1
    (c.nodes.ensures.nodes ∙ ap (λ (h : LinkGraph). h.nodes) c.deref.ensures))
    c.group_report.ensures.some c.group_report.ensures.is_true

pub returns-in-Ok-clause-none : goal.returns-in-Ok-clause-none
returns-in-Ok-clause-none c =
    if_none _ _ c.group_report.result
    (none_of_all c.args.self.now c.args.moment c.in-Ok.snapshot.now.graph c.nodes.result.now c.kept.ensures.sound
    c.in-Ok.ensures.ok.1
    (c.nodes.ensures.nodes ∙ ap (λ (h : LinkGraph). h.nodes) c.deref.ensures))
    c.group_report.ensures.none

pub returns-in-Err-clause-none : goal.returns-in-Err-clause-none
returns-in-Err-clause-none c =
    none_without c.args.self.now c.args.moment c.kept.ensures.sound c.in-Err.ensures.err.1
