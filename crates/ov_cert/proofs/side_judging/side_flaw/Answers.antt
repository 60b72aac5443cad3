-- A side without a flaw of its ids is a set of nodes.
use Rattle.ov_cert.proofs.Validity.FrameFlaws.{flawless_set}
use Rattle.ov_cert.proofs.side_judging.side_flaw.Goals as goal

pub way_out-requires : goal.way_out-requires
way_out-requires c = (flawless_set c.args.graph.now c.as_slice-ids.result.now c.in-Ok.ensures.none).nodes
