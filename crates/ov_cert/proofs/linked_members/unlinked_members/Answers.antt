-- The pairs of one more member.
use Rattle.std.proofs.Common.{◌∙◌, sym}
use Rattle.ov_cert.proofs.EntryOrder.Columns.{first_in_column, first_after_column}
use Rattle.ov_cert.proofs.linked_members.unlinked_members.Goals as goal

pub returns-in-Some : goal.returns-in-Some
returns-in-Some c = sym (first_in_column c.args.graph.now c.args.group.now c.loop-place.place c.index-group-place.result
    c.in-Some.pair c.loop-place-test.true c.index-group-place.is (sym c.in-Some.ensures)) ∙ c.loop-place.invariant

pub loop-place-preserved : goal.loop-place-preserved
loop-place-preserved c = first_after_column c.args.graph.now c.args.group.now c.loop-place.place
    c.index-group-place.result c.loop-place-test.true c.index-group-place.is (sym c.in_default.ensures)
    ∙ c.loop-place.invariant
