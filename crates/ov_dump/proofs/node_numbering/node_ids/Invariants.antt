-- the nodes so far
use Rattle.std.proofs.Common.{◌≡◌}
use Rattle.ov_dump.specs.Dumps.{numbers}
use Rattle.ov_dump.proofs.node_numbering.node_ids.Given as goal

abbrev pub invariant-loop-place : goal.invariant-loop-place
invariant-loop-place l = l.ids.items ≡ numbers l.place
