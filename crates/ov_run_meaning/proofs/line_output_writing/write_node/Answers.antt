-- The line of a node that lives was written, or a prefix of it.
use Rattle.std.proofs.Common.{refl}
use Rattle.ov_run_meaning.specs.Accepting.{HidesNode, ShowsNode}
use Rattle.ov_run_meaning.proofs.Writing.Outcomes.{begun, done}
use Rattle.ov_run_meaning.proofs.line_output_writing.write_node.Goals as goal

pub returns-in-Some-clause-outcome : goal.returns-in-Some-clause-outcome
returns-in-Some-clause-outcome g c =
    done (ShowsNode c.args.world.now.net c.args.id) (HidesNode c.args.world.now.net c.args.id) _ _ _ c.write_peer.result
    (c.in-Some.peer.now, c.in-Some.ensures.some, refl) c.write_peer.ensures.outcome c.write_peer.ensures.bytes

pub returns-in-Some-clause-begun : goal.returns-in-Some-clause-begun
returns-in-Some-clause-begun g c =
    begun (ShowsNode c.args.world.now.net c.args.id) _ _ _ c.write_peer.result
    (c.in-Some.peer.now, c.in-Some.ensures.some, refl) c.write_peer.ensures.prefix
