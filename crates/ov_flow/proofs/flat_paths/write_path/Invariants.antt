use Rattle.std.proofs.Common.{◌+◌, ◌-◌, length}
use Rattle.ov_split.specs.Places.{net_by_place}
use Rattle.ov_flow.specs.Code.Walked.{table_of}
use Rattle.ov_flow.proofs.Writing.{IsWriting}
use Rattle.ov_flow.proofs.flat_paths.write_path.Given as goal

abbrev pub invariant-loop-at : goal.invariant-loop-at
invariant-loop-at g l =
    IsWriting (net_by_place l.net) (table_of l.from) l.fn.flat.items l.flat.items l.end l.at

abbrev pub decreases-loop-at : goal.decreases-loop-at
decreases-loop-at g l = length l.fn.flat.items + length l.net.graph.nodes - length l.flat.items
