use Rattle.ov_plum.specs.PlumRows.{fires}
use Rattle.ov_plum.proofs.Planning.{change_planned}
use Rattle.ov_plum.proofs.plum.Plum.on_timer.Goals as goal

pub follow-requires : goal.follow-requires
follow-requires c = change_planned c.args.self.now (fires c.args.id) c.in_ok-plan.plan c.in_ok-plan.ensures.allowed
