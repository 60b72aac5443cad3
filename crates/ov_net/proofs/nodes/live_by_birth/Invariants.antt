-- what is left decides
use Rattle.std.proofs.Common.{◌≡◌, ◌++◌, drop}
use Rattle.ov_net.proofs.Steps.LiveIds.{live_of}
use Rattle.ov_net.proofs.nodes.live_by_birth.Given as goal

abbrev pub invariant-loop-place : goal.invariant-loop-place
invariant-loop-place l = l.ids.items ++ live_of (drop l.place l.members.entries) ≡ live_of l.members.entries
