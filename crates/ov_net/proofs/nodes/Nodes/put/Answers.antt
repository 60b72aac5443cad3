use Rattle.std.proofs.Common.{ap, ◌∙◌}
use Rattle.std.specs.FinMap as map
use Rattle.ov_net.proofs.Steps.Members.{inserted}
use Rattle.ov_net.proofs.nodes.Nodes.put.Goals as goal

pub returns-clause-ok : goal.returns-clause-ok
returns-clause-ok c =
    inserted _ _ c.args.id c.args.member (c.in_ok-insert.ensures.updates.0)
    ∙ ap (λ m. map.insert m c.args.id c.args.member) c.self.view_is
