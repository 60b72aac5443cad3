use Rattle.std.proofs.Common.{IfOk, length, subst}
use Rattle.std.proofs.lemmas.Result.{IfOk-weaker}
use Rattle.ov_net.specs.Code.Codes.{world_of}
use Rattle.ov_net.specs.Journal.{AreLinks}
use Rattle.ov_net.specs.World.{WorldState}
use Rattle.ov_net.proofs.Links.Kept.{by_journal}
use Rattle.ov_net.proofs.world.World.links.Goals as goal

pub returns-in-Unkept : goal.returns-in-Unkept
returns-in-Unkept c =
    let w = c.self.inside in
    let seen = world_of w.params w.nodes w.packets.items w.journal.items in
    subst (λ (v : WorldState). IfOk c.graph_by_views.result (λ g. AreLinks v.journal (length v.journal) g))
    c.self.view_is
    (IfOk-weaker c.graph_by_views.result _ _ (λ g is. by_journal seen g c.self.invariant.0.tells is)
    c.graph_by_views.ensures)
