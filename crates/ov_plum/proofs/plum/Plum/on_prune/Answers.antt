use Rattle.ov_wire.specs.Messages.{say}
use Rattle.ov_wire.specs.declared.message.Body.TheVariants.{Prune}
use Rattle.ov_plum.specs.PlumRows.{receives}
use Rattle.ov_plum.proofs.Planning.{change_planned}
use Rattle.ov_plum.proofs.plum.Plum.on_prune.Goals as goal

pub follow-requires : goal.follow-requires
follow-requires c =
    change_planned c.args.self.now (receives (say c.args.from Prune))
    c.plan_prune-plan.result c.plan_prune-plan.ensures.allowed
