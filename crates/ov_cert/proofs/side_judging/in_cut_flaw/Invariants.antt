-- the result for all ids is the result for the ids still left
use Rattle.std.proofs.Common.{◌≡◌, drop}
use Rattle.ov_cert.specs.Code.FrameFlaws.{in_cut_flaw}
use Rattle.ov_cert.proofs.side_judging.in_cut_flaw.Given as goal

abbrev pub invariant-loop-at : goal.invariant-loop-at
invariant-loop-at l = in_cut_flaw l.cut.members l.at (drop l.at l.ids) ≡ in_cut_flaw l.cut.members 0 l.ids
