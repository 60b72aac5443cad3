use Rattle.std.proofs.Common.{IfOk, subst}
use Rattle.ov_net.specs.Net.{AreLiveNodes}
use Rattle.ov_net.specs.World.{WorldState}
use Rattle.ov_net.proofs.Steps.LiveIds.{both_ok}
use Rattle.ov_net.proofs.world.World.live_nodes.Goals as goal

pub returns : goal.returns
returns c =
    subst (λ (v : WorldState). IfOk c.live_ids.result (λ ids. AreLiveNodes v.net ids.items)) c.self.view_is
    (both_ok c.live_ids.result _ _ _ (λ ids up each. record { ascend = up; each = each }) c.live_ids.ensures.ascend
    c.live_ids.ensures.each)
