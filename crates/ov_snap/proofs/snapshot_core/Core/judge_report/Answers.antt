-- A report of another graph than that of its moment is refused for that.
use Rattle.std.proofs.Common.{◌≢◌, ◌∙◌, ap, sym}
use Rattle.std.proofs.lemmas.Bool.{both_ways}
use Rattle.ov_graph.specs.Links.{LinkGraph}
use Rattle.ov_cert.specs.State.{CheckedState}
use Rattle.ov_snap.proofs.Refusing.{filing_other}
use Rattle.ov_snap.proofs.snapshot_core.Core.judge_report.Goals as goal

pub returns-then-not-is_same-clause-err : goal.returns-then-not-is_same-clause-err
returns-then-not-is_same-clause-err c =
    let g : LinkGraph = c.in_ok-snapshot.snapshot.now.graph in
    let other : c.args.report.now.graph ≢ g = λ e.
    both_ways c.is_same.result c.if-not-is_same.true
    (c.is_same.ensures.1 (c.graph.ensures.graph ∙ ap (λ (v : CheckedState). v.graph) c.checked-checked.ensures ∙ e
    ∙ sym c.deref.ensures)) in
    filing_other c.args.self.now c.args.report.now c.moment.result g c.moment.ensures c.in_ok-snapshot.ensures.ok other
