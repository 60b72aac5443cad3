-- The node of one name more.
use Rattle.std.proofs.Common.{◌≡◌, ◌∙◌, ap, arith, cond, nat_eq, slice_index, Some, subst, sym, length}
use Rattle.std.specs.Cmp.Lexicographic.{pointwise}
use Rattle.std.specs.HashMap.{get}
use Rattle.ov_dump.specs.Code.Numbering.{AreByName}
use Rattle.ov_dump.proofs.Numberings.{any_default, by_name_begun, by_name_more, there}
use Rattle.ov_dump.proofs.node_numbering.nodes_by_name.Goals as goal

pub loop-place-init : goal.loop-place-init
loop-place-init c =
    by_name_begun c.args.sorted.now c.args.ids.now c.new-nodes.result c.new-nodes.ensures.empty

pub loop-place-preserved : goal.loop-place-preserved
loop-place-preserved c =
    let sorted = c.args.sorted.now in
    let ids = c.args.ids.now in
    let p = c.loop-place.place in
    let low = c.loop-place-test.true in
    let each = c.requires.each in
    let name = c.in_ok-copy.field-0 in
    let old = c.loop-place.nodes in
    let id : c.index-ids-place.result ≡ slice_index ids p =
    c.index-ids-place.is ∙ any_default ids p c.index-ids-place.result 0 (omega (arith, low, each)) in
    by_name_more sorted ids p name old c.insert.new.self
    (there sorted p c.index-sorted-place.result low
    ∙ ap Some (sym (c.in_ok-copy.ensures ∙ c.index-sorted-place.is)))
    (λ q. c.in_ok-insert.ensures.updates.0 q
    ∙ ap (λ i. cond (pointwise nat_eq name q) (Some i) (get (pointwise nat_eq) old q)) id) c.loop-place.invariant

pub returns : goal.returns
returns c =
    let far = c.loop-place-test.false in
    let end = c.loop-place.auto.place-end in
    let all : c.loop-place.place ≡ length c.args.sorted.now = omega (arith, far, end) in
    subst (λ e. AreByName c.args.sorted.now c.args.ids.now e c.loop-place.nodes) all c.loop-place.invariant
