-- The last step leads to its node.
use Rattle.std.proofs.Common.{sym}
use Rattle.ov_flow.proofs.Seeking.{end_last}
use Rattle.ov_flow.proofs.layered_walks.last_node.Goals as goal

pub returns-in-Some : goal.returns-in-Some
returns-in-Some c = sym (end_last c.args.source c.args.hops.now c.in-Some.hop.now c.in-Some.ensures.value)
