-- If the frame has no fault, the members are a group.
use Rattle.std.proofs.Common.{sym, subst}
use Rattle.ov_cert.proofs.Validity.Verdicts.{FrameSays, frame_judged, frame_group}
use Rattle.ov_cert.proofs.checker.first_fault.Goals as goal

pub fault_of_entries-requires : goal.fault_of_entries-requires
fault_of_entries-requires c =
    let g = c.args.graph.now in
    let q = c.args.group.now in
    let cert = c.args.cert.now in
    frame_group g q cert (subst (FrameSays g q cert) (sym c.in_default.ensures.fault)
    (frame_judged g q cert c.in_default.ensures.graph))
