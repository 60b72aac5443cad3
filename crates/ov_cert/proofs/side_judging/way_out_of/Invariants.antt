-- the result for all neighbours is the result for the neighbours still to come
use Rattle.std.proofs.Common.{◌≡◌}
use Rattle.ov_cert.specs.Code.FrameFlaws.{way_out_of}
use Rattle.ov_cert.proofs.side_judging.way_out_of.Given as goal

abbrev pub invariant-loop-other : goal.invariant-loop-other
invariant-loop-other l = way_out_of l.side.members l.cut.members l.id l.other-iterator ≡ way_out_of l.side.members
    l.cut.members l.id l.initial.other-iterator
