use Rattle.std.proofs.Common.{sym, ap, ◌∙◌}
use Rattle.std.specs.FinMap as map
use Rattle.ov_net.proofs.Steps.Members.{counted}
use Rattle.ov_net.proofs.nodes.Nodes.len.Goals as goal

pub returns : goal.returns
returns c = c.len.ensures.len ∙ sym (counted _ c.len.ensures.unique) ∙ ap map.len c.self.view_is
