use Rattle.std.proofs.Common.{take}
use Rattle.ov_grow.specs.Code.Standing.{HaveNone}
use Rattle.ov_grow.proofs.growth_in_progress.Growing.first_crashed_of.Given as goal
use Rattle.ov_net.specs.Net.{IsGone}

abbrev pub invariant-loop-node : goal.invariant-loop-node
invariant-loop-node l = HaveNone (IsGone l.self.recording.core.world.net) (take l.node-index l.nodes)
