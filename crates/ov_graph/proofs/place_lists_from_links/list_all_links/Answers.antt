-- One more link is listed at both its ends.
use Rattle.std.proofs.Common.{sym, subst}
use Rattle.ov_ids.specs.Members.{Has}
use Rattle.ov_ids.proofs.Members.{has_place}
use Rattle.ov_graph.proofs.PlaceLists.Growing.{one_listed}
use Rattle.ov_graph.proofs.place_lists_from_links.list_all_links.Goals as goal

pub place_in-p-requires-clause-node : goal.place_in-p-requires-clause-node
place_in-p-requires-clause-node c =
    let links = c.args.links.now in
    let l = c.link-item.result in
    (c.requires.graph.joins l
    (subst (Has links) (sym c.link-item.is) (has_place links c.loop-link.link-index l c.loop-link-test.true))).1

pub place_in-q-requires-clause-node : goal.place_in-q-requires-clause-node
place_in-q-requires-clause-node c =
    let links = c.args.links.now in
    let l = c.link-item.result in
    (c.requires.graph.joins l
    (subst (Has links) (sym c.link-item.is) (has_place links c.loop-link.link-index l c.loop-link-test.true))).2

pub loop-link-preserved : goal.loop-link-preserved
loop-link-preserved c =
    let p = c.place_in-p.ensures in
    let q = c.place_in-q.ensures in
    one_listed c.args.nodes.now c.args.links.now c.loop-link.lists c.add.new.lists c.add-in-loop-link.new.lists
    c.loop-link.link-index c.place_in-p.result c.place_in-q.result c.link-item.result c.requires.graph
    c.loop-link-test.true c.link-item.is p.below q.below p.there q.there c.in_ok-add.ensures c.in_ok-add-2.ensures
    c.loop-link.invariant
