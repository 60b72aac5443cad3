-- The flaw that is found says the verdict, and is one that the certificate has.
use Rattle.ov_cert.proofs.Validity.FrameFlaws.{frame_flaw_judged}
use Rattle.ov_cert.proofs.checks_apart_from_paths.frame_flaw.Goals as goal

pub returns-clause-right : goal.returns-clause-right
returns-clause-right c = (frame_flaw_judged c.args.graph.now c.args.group.now c.args.cert.now
    c.first_frame_flaw.ensures.graph c.first_frame_flaw.result c.first_frame_flaw.ensures.flaw).right

pub returns-clause-fault : goal.returns-clause-fault
returns-clause-fault c = (frame_flaw_judged c.args.graph.now c.args.group.now c.args.cert.now
    c.first_frame_flaw.ensures.graph c.first_frame_flaw.result c.first_frame_flaw.ensures.flaw).fault

pub returns-clause-flaw : goal.returns-clause-flaw
returns-clause-flaw c = (frame_flaw_judged c.args.graph.now c.args.group.now c.args.cert.now
    c.first_frame_flaw.ensures.graph c.first_frame_flaw.result c.first_frame_flaw.ensures.flaw).flaw
