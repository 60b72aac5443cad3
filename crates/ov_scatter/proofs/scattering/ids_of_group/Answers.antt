-- One member more, which is a node.
use Rattle.std.proofs.Common.{◌≡◌, ◌∙◌, ◌++◌, ◌∷◌, ◌+◌, [], ap, arith, get_or, rules, subst, sym}
use Rattle.ov_ids.specs.Members.{Has}
use Rattle.ov_ids.specs.Sets.{count_below}
use Rattle.ov_ids.proofs.Members.{has_place}
use Rattle.ov_ids.proofs.Sets.{count_below_at}
use Rattle.ov_scatter.specs.Code.Keys.{new_id}
use Rattle.ov_scatter.proofs.Copied.{AreFirstIds, ids_all, ids_more}
use Rattle.ov_scatter.proofs.Keyed.{any_default}
use Rattle.ov_scatter.proofs.scattering.ids_of_group.Goals as goal

pub unreachable-requires : goal.unreachable-requires
unreachable-requires c =
    let group = c.args.group.now in
    let i = c.loop-member.member-index in
    c.in-None.ensures.none (c.requires.group.nodes c.member-item.result
    (subst (Has group) (sym c.member-item.is) (has_place group i c.member-item.result c.loop-member-test.true)))

pub loop-member-preserved : goal.loop-member-preserved
loop-member-preserved c =
    let g = c.args.graph.now in
    let keys = c.args.keys.now in
    let group = c.args.group.now in
    let k = c.loop-member.member-index in
    let ids = c.loop-member.ids.items in
    let place = c.in-Some.place in
    let there = c.in-Some.ensures.some in
    let low = there.0 in
    let count = c.requires.keys in
    let member : c.member-item.result ≡ get_or group k 0 =
    c.member-item.is ∙ any_default group k c.member-item.result 0 c.loop-member-test.true in
    let below : count_below (get_or group k 0) g.nodes ≡ place =
    ap (λ x. count_below x g.nodes) (sym (there.1 ∙ member))
    ∙ count_below_at g.nodes place 0 c.in-Some.ensures.graph.nodes_ascend low in
    let key : new_id g keys (get_or group k 0) ≡ c.index-keys-place.result =
    ap (λ p. get_or keys p 0) below
    ∙ any_default keys place 0 c.index-keys-place.result (omega (arith, low, count)) ∙ sym c.index-keys-place.is in
    let pushed : c.push.new.self.items ≡ ids ++ c.index-keys-place.result ∷ [] = search rules in
    subst (AreFirstIds g keys group (k + 1)) (sym pushed)
    (subst (λ x. AreFirstIds g keys group (k + 1) (ids ++ x ∷ [])) key
    (ids_more g keys group k ids c.loop-member-test.true c.loop-member.invariant))

pub returns : goal.returns
returns c =
    let far = c.loop-member-test.false in
    ids_all c.args.graph.now c.args.keys.now c.args.group.now c.loop-member.member-index c.loop-member.ids.items
    c.put_in_order.new.ids.items (omega (arith, far)) c.loop-member.invariant c.put_in_order.ensures.ascend
    c.put_in_order.ensures.each
