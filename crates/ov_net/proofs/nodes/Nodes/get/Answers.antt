use Rattle.std.proofs.Common.{sym, ap, ◌∙◌}
use Rattle.std.specs.FinMap as map
use Rattle.ov_net.proofs.Steps.Members.{found, missed}
use Rattle.ov_net.proofs.nodes.Nodes.get.Goals as goal

pub returns-in-Some : goal.returns-in-Some
returns-in-Some c =
    sym c.index.ensures ∙ c.in-Some.ensures.value ∙ sym (found _ c.args.id)
    ∙ ap (λ m. map.get m c.args.id) c.self.view_is

pub returns-in-None : goal.returns-in-None
returns-in-None c = missed _ c.args.id c.in-None.ensures.found ∙ ap (λ m. map.get m c.args.id) c.self.view_is
