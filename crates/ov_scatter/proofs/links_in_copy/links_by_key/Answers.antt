-- The links from one key more, which is that of a place, or of none.
use Rattle.std.proofs.Common.{◌≡◌, ◌∙◌, ◌≤◌, ◌<◌, ◌+◌, ◌++◌, ℕ, List, arith, get_or, length, rules, subst, sym}
use Rattle.ov_scatter.specs.Code.Keys.{AreKeysAbove, AreLinksByKey, HasKeysFrom, linked_to}
use Rattle.ov_scatter.proofs.Above.{left_more, left_same, links_more, links_same}
use Rattle.ov_scatter.proofs.Keyed.{one_place}
use Rattle.ov_scatter.proofs.links_in_copy.links_by_key.Goals as goal

pub find_keys_above-requires-clause-left : goal.find_keys_above-requires-clause-left
find_keys_above-requires-clause-left c =
    let g = c.args.graph.now in
    let order = c.args.order.now in
    let keys = c.args.keys.now in
    let key = c.loop-key.key in
    let p = c.in-Some.place in
    let some = c.in-Some.ensures.some in
    let low = some.0 in
    let places = c.requires.places in
    let count = c.requires.keys.count in
    let within = c.nodes.ensures.within in
    let few : length order ≤ 32768 = omega (arith, places, within) in
    let one : (q : ℕ) → q < length g.nodes → get_or keys q 0 ≡ key → q ≡ p = λ q less e.
    one_place order keys q p few c.requires.keys (omega (arith, less, places)) (omega (arith, low, count))
    (e ∙ sym some.1) in
    left_more g keys key p c.loop-key.left c.clear.new.row one some.1 c.clear.ensures c.loop-key.invariant.left

pub loop-key-preserved-in_default : goal.loop-key-preserved-in_default
loop-key-preserved-in_default c =
    let g = c.args.graph.now in
    let keys = c.args.keys.now in
    let count = c.requires.keys.count ∙ c.requires.places in
    record {
      links = links_same g keys c.loop-key.key c.loop-key.links.items count c.in_default.ensures.none
          c.loop-key.invariant.links;
      left = left_same g keys c.loop-key.key c.loop-key.left count c.in_default.ensures.none c.loop-key.invariant.left;
    }

pub loop-key-preserved : goal.loop-key-preserved
loop-key-preserved c =
    let g = c.args.graph.now in
    let order = c.args.order.now in
    let keys = c.args.keys.now in
    let key = c.loop-key.key in
    let links = c.loop-key.links.items in
    let p = c.in-Some.place in
    let some = c.in-Some.ensures.some in
    let low = some.0 in
    let places = c.requires.places in
    let count = c.requires.keys.count in
    let within = c.nodes.ensures.within in
    let few : length order ≤ 32768 = omega (arith, places, within) in
    let one : (q : ℕ) → q < length g.nodes → get_or keys q 0 ≡ key → q ≡ p = λ q less e.
    one_place order keys q p few c.requires.keys (omega (arith, less, places)) (omega (arith, low, count))
    (e ∙ sym some.1) in
    let is : c.new.result ≡ key = search rules in
    let above = c.deref.result.now in
    let all = subst (λ (ks : List ℕ). AreKeysAbove g keys p ks) (sym c.deref.ensures.value)
    c.in_ok-find_keys_above.ensures in
    let new : c.add_links.new.links.items ≡ links ++ linked_to key above =
    subst (λ (k : ℕ). c.add_links.new.links.items ≡ links ++ linked_to k above) is c.in_ok-add_links.ensures in
    record {
      links = subst (AreLinksByKey g keys (key + 1)) (sym new)
          (links_more g keys key p above links one (omega (arith, low, count, places)) some.1 all
          c.loop-key.invariant.links);
      left = subst (λ (k : ℕ). HasKeysFrom g keys (k + 1) c.clear.new.row) some.1
          (left_more g keys key p c.loop-key.left c.clear.new.row one some.1 c.clear.ensures c.loop-key.invariant.left);
    }
