-- the result for all nodes is the result for the nodes still left
use Rattle.std.proofs.Common.{◌≡◌, drop}
use Rattle.ov_cert.specs.Code.FrameFlaws.{way_out}
use Rattle.ov_cert.proofs.side_judging.way_out.Given as goal

abbrev pub invariant-loop-id : goal.invariant-loop-id
invariant-loop-id l = way_out l.graph l.side.members l.cut.members (drop l.id-index l.ids) ≡ way_out l.graph
    l.side.members l.cut.members l.ids
