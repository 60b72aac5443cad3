use Rattle.std.proofs.Common.{◌∙◌, ap, map, refl}
use Rattle.ov_net.specs.NetStep.{change_at}
use Rattle.ov_net.proofs.node_planning.effects_of_input.Goals as goal

pub returns-clause-effects : goal.returns-clause-effects
returns-clause-effects c = record {
  plan = c.in_ok-plan.plan;
  planned = c.in_ok-plan.ensures.planned;
  node = refl;
  place = refl;
  packets = c.in_ok-added.ensures.packets ∙ ap (λ g. g.sends.items) c.as_plan.ensures;
  changes = c.in_ok-added.ensures.changes ∙ ap (λ g. map (change_at c.args.node) g.changes.items) c.as_plan.ensures;
  delivery = c.in_ok-added.ensures.delivery ∙ ap (λ g. g.delivered) c.as_plan.ensures;
}
