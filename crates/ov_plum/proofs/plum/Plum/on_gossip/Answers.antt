use Rattle.ov_wire.specs.Messages.{say}
use Rattle.ov_wire.specs.declared.message.Body.TheVariants.{Gossip}
use Rattle.ov_plum.specs.PlumRows.{receives}
use Rattle.ov_plum.proofs.Planning.{change_planned}
use Rattle.ov_plum.proofs.plum.Plum.on_gossip.Goals as goal

pub follow-requires : goal.follow-requires
follow-requires c =
    change_planned c.args.self.now (receives (say c.args.from (Gossip c.args.id c.args.round c.args.payload)))
    c.in_ok-plan.plan c.in_ok-plan.ensures
