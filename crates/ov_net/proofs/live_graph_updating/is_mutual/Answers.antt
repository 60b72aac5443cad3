use Rattle.std.proofs.Common.{not, ap, ◌∙◌}
use Rattle.std.proofs.lemmas.Bool.{both_ways, eq-eqb}
use Rattle.ov_net.proofs.live_graph_updating.is_mutual.Goals as goal

pub returns-then-ne : goal.returns-then-ne
returns-then-ne c = (
  (λ t. (
    (λ e. both_ways c.ne.result (c.ne.ensures ∙ ap not (eq-eqb c.args.node c.args.other e)) c.if-ne.true),
    c.holds.ensures.0 t,
  )),
  (λ m. c.holds.ensures.1 m.1),
)
