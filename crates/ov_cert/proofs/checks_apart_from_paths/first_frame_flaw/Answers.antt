-- A group without a flaw of its ids is a set of nodes.
use Rattle.ov_cert.proofs.Validity.FrameFlaws.{flawless_set}
use Rattle.ov_cert.proofs.checks_apart_from_paths.first_frame_flaw.Goals as goal

pub flaw_of_split-requires : goal.flaw_of_split-requires
flaw_of_split-requires c = (flawless_set c.args.graph.now c.args.group.now c.in_default.ensures.none).ascends
