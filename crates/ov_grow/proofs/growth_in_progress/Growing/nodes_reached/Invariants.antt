-- which of the nodes so far the message reached, and which of those that are left
use Rattle.std.proofs.Common.{◌≡◌, drop}
use Rattle.ov_grow.specs.Code.Counting.{no_nodes, reached_all}
use Rattle.ov_grow.proofs.growth_in_progress.Growing.nodes_reached.Given as goal

abbrev pub invariant-loop-node : goal.invariant-loop-node
invariant-loop-node l =
    reached_all l.self.recording.core.world.net l.id (drop l.node-index l.live) l.reached
    ≡ reached_all l.self.recording.core.world.net l.id l.live no_nodes
