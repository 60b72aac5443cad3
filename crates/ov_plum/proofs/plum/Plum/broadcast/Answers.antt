use Rattle.ov_plum.specs.PlumRows.{broadcasts}
use Rattle.ov_plum.proofs.Planning.{change_planned}
use Rattle.ov_plum.proofs.plum.Plum.broadcast.Goals as goal

pub follow-requires : goal.follow-requires
follow-requires c = change_planned c.args.self.now (broadcasts c.args.payload) c.in_ok-plan.plan c.in_ok-plan.ensures
