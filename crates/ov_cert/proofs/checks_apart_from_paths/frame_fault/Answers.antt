-- The fault of the flaw is the fault by tests.
use Rattle.std.proofs.Common.{◌∙◌, Some, option_map, ap}
use Rattle.ov_cert.specs.FrameFlaws.{flaw_fault}
use Rattle.ov_cert.proofs.Validity.FrameFlaws.{fault_of_flaw}
use Rattle.ov_cert.proofs.checks_apart_from_paths.frame_fault.Goals as goal

pub returns-in-Some-clause-fault : goal.returns-in-Some-clause-fault
returns-in-Some-clause-fault c =
    ap Some c.fault.ensures ∙ ap (option_map flaw_fault) c.in-Some.ensures.flaw
    ∙ fault_of_flaw c.args.graph.now c.args.group.now c.args.cert.now

pub returns-in-None-clause-fault : goal.returns-in-None-clause-fault
returns-in-None-clause-fault c = ap (option_map flaw_fault) c.in-None.ensures.flaw
    ∙ fault_of_flaw c.args.graph.now c.args.group.now c.args.cert.now
