use Rattle.std.proofs.Common.{◌∙◌, ap}
use Rattle.ov_graph.specs.Links.{LinkGraph}
use Rattle.ov_snap.proofs.Refusing.{begin_living}
use Rattle.ov_snap.proofs.snapshot_core.Core.lived.Goals as goal

pub returns-clause-ok : goal.returns-clause-ok
returns-clause-ok c =
    let snapshot = c.in_ok-snapshot in
    begin_living c.args.self.now c.args.moment snapshot.snapshot.now.graph c.nodes.result.now c.is_empty.result
    snapshot.ensures.ok (c.nodes.ensures.nodes ∙ ap (λ (g : LinkGraph). g.nodes) c.deref.ensures)
    c.is_empty.ensures c.if-is_empty.false
