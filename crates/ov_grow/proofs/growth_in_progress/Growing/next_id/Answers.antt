use Rattle.std.proofs.Common.{◌≡◌, None, Some, subst}
use Rattle.std.specs.FinMap as map
use Rattle.ov_grow.specs.BroadcastLog.{next_id}
use Rattle.ov_grow.proofs.Logging.{next_of, no_next}
use Rattle.ov_grow.proofs.growth_in_progress.Growing.next_id.Goals as goal

pub returns-in-Some : goal.returns-in-Some
returns-in-Some c = subst (λ w.
    Some (record { origin = c.args.node; seq = c.made.result })
    ≡ next_id c.args.node (map.get w.net.nodes c.args.node)) c.world.ensures
    (next_of c.args.node c.made.result _ c.in-Some.peer.now c.in-Some.ensures.some c.made.ensures.value)

pub returns-in-None : goal.returns-in-None
returns-in-None c = subst (λ w. None ≡ next_id c.args.node (map.get w.net.nodes c.args.node)) c.world.ensures
    (no_next c.args.node _ c.in-None.ensures.none)
