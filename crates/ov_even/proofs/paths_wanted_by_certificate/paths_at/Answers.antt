-- The slots have the paths of the pieces of the level.
use Rattle.std.proofs.Common.{arith}
use Rattle.ov_even.proofs.AnalysisSteps.Narrowing.{members_few}
use Rattle.ov_even.proofs.AnalysisSteps.Assembling.{pieces_in, have_slots}
use Rattle.ov_even.proofs.paths_wanted_by_certificate.paths_at.Goals as goal

pub slots_of-requires-clause-few : goal.slots_of-requires-clause-few
slots_of-requires-clause-few c =
    let few = members_few c.args.graph.now c.args.group.now c.requires.group in
    let within = c.nodes.ensures.within in
    omega (arith, few, within)

pub slots_of-requires-clause-pieces : goal.slots_of-requires-clause-pieces
slots_of-requires-clause-pieces c = pieces_in c.args.graph.now c.args.group.now c.args.hauls.now c.requires.right

pub found_pieces-requires-clause-slots : goal.found_pieces-requires-clause-slots
found_pieces-requires-clause-slots c =
    have_slots c.args.graph.now c.args.group.now c.args.level c.args.hauls.now _ c.requires.right c.requires.cleared
    (rw c.deref.ensures.value c.in_ok-slots.ensures)
