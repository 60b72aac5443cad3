use Rattle.std.proofs.Common.{take}
use Rattle.ov_split.specs.Places.{net_by_place}
use Rattle.ov_flow.specs.Code.Walked.{table_of}
use Rattle.ov_flow.proofs.Writing.{AreWriting}
use Rattle.ov_flow.proofs.flat_paths.write_paths.Given as goal

abbrev pub invariant-loop-end : goal.invariant-loop-end
invariant-loop-end g l =
    AreWriting (net_by_place l.net) (table_of l.from) l.flat.items (take l.end-index l.ends) l.end-index
