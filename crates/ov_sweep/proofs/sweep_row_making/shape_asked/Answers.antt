use Rattle.std.proofs.Common.{◌∙◌, ap, subst}
use Rattle.ov_graph.specs.Links.{LinkGraph}
use Rattle.ov_sweep.specs.Rows.{IsShapeOf}
use Rattle.ov_sweep.proofs.Asking.{asked, not_asked}
use Rattle.ov_sweep.proofs.sweep_row_making.shape_asked.Goals as goal

pub returns-then-not-asked : goal.returns-then-not-asked
returns-then-not-asked c = not_asked (IsShapeOf c.args.report.now.graph) c.args.asked c.if-not-asked.true

pub returns : goal.returns
returns c = asked (IsShapeOf c.args.report.now.graph) c.args.asked c.in_ok-phase_shape.field-0 c.if-not-asked.false
    (subst (λ (g : LinkGraph). IsShapeOf g c.in_ok-phase_shape.field-0)
    (c.graph.ensures.graph ∙ ap (λ x. x.graph) c.checked.ensures) c.in_ok-phase_shape.ensures)
