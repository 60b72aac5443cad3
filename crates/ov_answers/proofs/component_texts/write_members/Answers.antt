-- One component more is told, or left out.
use Rattle.std.proofs.Common.{◌<◌, ◌∙◌, [], length, get_or, arith}
use Rattle.ov_answers.proofs.Componentwise.{members_more, component_told, component_left_out}
use Rattle.ov_answers.proofs.component_texts.write_members.Goals as goal

pub loop-place-preserved-then-place-left_out : goal.loop-place-preserved-then-place-left_out
loop-place-preserved-then-place-left_out c =
    let i = c.loop-place.place in
    let components = c.args.components.now in
    let at : i < length components = omega (arith, c.loop-place-test.true, c.len-place-end.ensures) in
    members_more c.args.names.now c.args.left_out i components c.args.text.now.items c.loop-place.text.items
    c.loop-place.text.items at c.loop-place.invariant
    (component_left_out c.args.names.now c.args.left_out i (get_or components i []) c.loop-place.text.items
    c.if-place-left_out.true)

pub loop-place-preserved : goal.loop-place-preserved
loop-place-preserved c =
    let i = c.loop-place.place in
    let components = c.args.components.now in
    let names = c.args.names.now in
    let before = c.loop-place.text.items in
    let new = c.write_nodes.new.text.items in
    let at : i < length components = omega (arith, c.loop-place-test.true, c.len-place-end.ensures) in
    members_more names c.args.left_out i components c.args.text.now.items before new at c.loop-place.invariant
    (component_told names c.args.left_out i (get_or components i []) c.component_at.result.now c.deref.result.now
    before new
    c.if-place-left_out.false c.component_at.ensures (c.deref.ensures.value ∙ c.in_ok-words.ensures)
    c.in_ok-write_nodes.ensures)
