-- The first members are a group, and more nodes are needed to split these alone.
use Rattle.std.proofs.Common.{◌+◌, take, arith}
use Rattle.ov_cert.specs.Valid.{k_of}
use Rattle.ov_cert.proofs.EntryOrder.Columns.{ascends_take}
use Rattle.ov_even.proofs.AnalysisSteps.FirstMembers.{first_group}
use Rattle.ov_crew.proofs.ByCopy.{fewer_unsplit}
use Rattle.ov_crew.proofs.group_number_by_copy.unsplit_members.Goals as goal

pub are_all_linked-requires : goal.are_all_linked-requires
are_all_linked-requires g c = ascends_take c.loop.count c.args.group.now c.requires.group.ascends

pub outline_in_copy-requires-clause-group : goal.outline_in_copy-requires-clause-group
outline_in_copy-requires-clause-group g c κs within =
    let some = c.if-count-lt-LEAST_MEMBERS.false in
    first_group c.args.graph.now c.args.group.now c.loop.count c.requires.group (omega (arith, some)) c.loop.invariant

pub returns-then-number_of-fewest-clause-unsplit : goal.returns-then-number_of-fewest-clause-unsplit
returns-then-number_of-fewest-clause-unsplit g c =
    let most = c.if-number_of-fewest.true in
    let fewest = c.number_of-fewest.ensures in
    let own = c.number_of.ensures in
    fewer_unsplit c.args.graph.now (take c.loop.count c.args.group.now) (k_of c.args.outline.now + 1)
    (k_of c.in_ok-own.own) c.in_ok-own.ensures.number.holds (omega (arith, most, fewest, own))
