use Rattle.std.proofs.Common.{◌≤◌, take}
use Rattle.ov_grow.specs.Code.Standing.{HaveNone}
use Rattle.ov_grow.proofs.broadcasts.stand_in.Given as goal

abbrev pub invariant-loop-node : goal.invariant-loop-node
invariant-loop-node l = HaveNone (λ a. l.sender ≤ a) (take l.node-index l.nodes)
