use Rattle.std.proofs.Common.{sym, ◌∙◌}
use Rattle.ov_net.proofs.Links.Scanned.{below_tested}
use Rattle.ov_net.proofs.links_by_views.is_upward.Goals as goal

pub returns-then-lt : goal.returns-then-lt
returns-then-lt c = (
  (λ t. (below_tested c.args.node c.args.other (sym c.lt.ensures ∙ c.if-lt.true), c.holds.ensures.0 t)),
  (λ m. c.holds.ensures.1 m.1),
)
