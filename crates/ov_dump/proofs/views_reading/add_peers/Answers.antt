-- One item more: a name, or nobody.
use Rattle.std.proofs.Common.{◌≡◌, ◌∙◌, ◌++◌, ◌∷◌, [], ◌+◌, ap, drop, rules, sym}
use Rattle.json.specs.Json.{item}
use Rattle.json.specs.Value.{items_view, value_view}
use Rattle.ov_dump.specs.declared.dump_and_graph_types.Listing.{Listing}
use Rattle.ov_dump.proofs.Viewing.{lists_nobody, lists_peer, next_item}
use Rattle.ov_dump.proofs.views_reading.add_peers.Goals as goal

pub loop-item-preserved-in-Nobody : goal.loop-item-preserved-in-Nobody
loop-item-preserved-in-Nobody c =
    let all = c.args.items.now in
    let i = c.loop-item.item-index in
    let next = c.item-item.result in
    let first = next_item all i next c.loop-item-test.true
    ∙ ap (λ w. item (value_view w) (items_view (drop (i + 1) all))) (sym c.item-item.is) in
    lists_nobody c.args.at c.args.name.now (items_view all) c.args.listings.now.items c.loop-item.listings.items
    (items_view (drop i all)) (items_view (drop (i + 1) all)) (value_view next) c.loop-item.invariant first
    (sym c.in-Nobody.ensures)

pub loop-item-preserved : goal.loop-item-preserved
loop-item-preserved c =
    let all = c.args.items.now in
    let i = c.loop-item.item-index in
    let next = c.item-item.result in
    let first = next_item all i next c.loop-item-test.true
    ∙ ap (λ w. item (value_view w) (items_view (drop (i + 1) all))) (sym c.item-item.is) in
    let now = c.loop-item.listings.items in
    let later = c.push.new.self.items in
    let pushed : later ≡ now ++ c.in_ok-listing_of.field-0 ∷ [] = search rules in
    lists_peer c.args.at c.args.name.now (items_view all) c.args.listings.now.items now later (items_view (drop i all))
    (items_view (drop (i + 1) all)) (value_view next) c.in-Peer.to.now c.loop-item.invariant first
    (sym c.in-Peer.ensures)
    (pushed ∙ ap (λ (l : Listing). now ++ l ∷ []) c.in_ok-listing_of.ensures)
