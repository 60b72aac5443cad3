use Rattle.ov_wire.specs.Messages.{say}
use Rattle.ov_wire.specs.declared.message.Body.TheVariants.{IHave}
use Rattle.ov_plum.specs.PlumRows.{receives}
use Rattle.ov_plum.proofs.Planning.{change_planned}
use Rattle.ov_plum.proofs.plum.Plum.on_ihave.Goals as goal

pub follow-requires : goal.follow-requires
follow-requires c =
    change_planned c.args.self.now (receives (say c.args.from (IHave c.args.id)))
    c.plan_ihave-plan.result c.plan_ihave-plan.ensures
