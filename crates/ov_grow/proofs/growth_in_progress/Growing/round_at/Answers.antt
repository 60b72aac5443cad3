use Rattle.std.proofs.Common.{◌≡◌, None, subst}
use Rattle.std.specs.FinMap as map
use Rattle.ov_grow.specs.MessageCosts.{round_of}
use Rattle.ov_grow.proofs.Logging.{no_round, round_held}
use Rattle.ov_grow.proofs.growth_in_progress.Growing.round_at.Goals as goal

pub returns-in-Some : goal.returns-in-Some
returns-in-Some c = subst (λ w. c.held_round.result ≡ round_of (map.get w.net.nodes c.args.node) c.args.id.now)
    c.world.ensures (round_held c.args.id.now c.held_round.result _ c.in-Some.peer.now c.in-Some.ensures.some
    c.held_round.ensures)

pub returns-in-None : goal.returns-in-None
returns-in-None c = subst (λ w. None ≡ round_of (map.get w.net.nodes c.args.node) c.args.id.now) c.world.ensures
    (no_round c.args.id.now _ c.in-None.ensures.none)
