-- There are no more members than nodes, and the number of members is not 0.
use Rattle.std.proofs.Common.{arith}
use Rattle.ov_even.proofs.AnalysisSteps.Narrowing.{members_few}
use Rattle.ov_even.proofs.AnalysisSteps.Outlining.{linked_outlined}
use Rattle.ov_even.proofs.outline_of_settled_pieces.linked_cert.Goals as goal

pub overflow_cast-result : goal.overflow_cast-result
overflow_cast-result c =
    let few = members_few c.args.graph.now c.args.group.now c.requires in
    let within = c.nodes.ensures.within in
    omega (arith, few, within)

pub returns-clause-outline : goal.returns-clause-outline
returns-clause-outline c =
    let some = c.requires.some_member in
    linked_outlined c.args.graph.now c.args.group.now _ c.requires
    (c.are_all_linked.ensures.0 c.if-not-are_all_linked.false) (omega (arith, some))
