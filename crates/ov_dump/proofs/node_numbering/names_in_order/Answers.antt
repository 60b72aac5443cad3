-- The name at one place more.
use Rattle.std.proofs.Common.{◌≡◌, ◌∙◌, ◌++◌, ◌∷◌, [], ap, ap₂, arith, get_or, map, rules, sym, take}
use Rattle.ov_ids.proofs.Members.{has_place}
use Rattle.ov_dump.proofs.Numberings.{any_default, mapped_more, name_at}
use Rattle.ov_dump.proofs.Places.{taken_next}
use Rattle.ov_dump.proofs.node_numbering.names_in_order.Goals as goal

pub bounds-sorted-place : goal.bounds-sorted-place
bounds-sorted-place c =
    let order = c.args.order.now in
    let i = c.loop-place.place-index in
    c.requires.places (get_or order i 0) (has_place order i 0 c.loop-place-test.true)

pub offset_bounds-sorted-place : goal.offset_bounds-sorted-place
offset_bounds-sorted-place c =
    let order = c.args.order.now in
    let i = c.loop-place.place-index in
    let low = c.requires.places (get_or order i 0) (has_place order i 0 c.loop-place-test.true) in
    let few = c.requires.few in omega (arith, low, few)

pub loop-place-preserved : goal.loop-place-preserved
loop-place-preserved c =
    let sorted = c.args.sorted.now in
    let order = c.args.order.now in
    let i = c.loop-place.place-index in
    let p = get_or order i 0 in
    let name = c.in_ok-copy.field-0 in
    let low = c.requires.places p (has_place order i 0 c.loop-place-test.true) in
    let pushed : c.push.new.self.items ≡ c.loop-place.names.items ++ name ∷ [] = search rules in
    let same : name ≡ name_at sorted p =
    c.in_ok-copy.ensures ∙ c.index-sorted-place.is ∙ any_default sorted p c.index-sorted-place.result [] low in
    pushed
    ∙ ap₂ (λ ns n. ns ++ n ∷ []) c.loop-place.invariant same
    ∙ sym (mapped_more (name_at sorted) (take i order) p)
    ∙ ap (λ ps. map (name_at sorted) ps)
    (sym (taken_next order i p c.loop-place-test.true (any_default order i 0 p c.loop-place-test.true)))
