-- The place of one more member.
use Rattle.std.proofs.Common.{◌≡◌, ◌+◌, List, ℕ, slice_index, take, take_all, sym, subst}
use Rattle.ov_ids.specs.Members.{Has}
use Rattle.ov_ids.proofs.Members.{has_place}
use Rattle.ov_graph.proofs.BitRows.Bits.{no_bits}
use Rattle.ov_fans.proofs.PieceNets.Ranks.{read_at}
use Rattle.ov_fans.proofs.PieceNets.MemberPlaces.{AreMemberPlacesSoFar, places_none, places_more, places_all}
use Rattle.ov_fans.proofs.group_by_places_in_graph.SettlerGroup.new.Goals as goal

pub loop-member-init : goal.loop-member-init
loop-member-init g c =
    places_none c.args.graph.now c.in_ok-places.places.items _ c.in_ok-places.ensures.items (no_bits g.row.W)

pub place_among-place-requires : goal.place_among-place-requires
place_among-place-requires g c =
    let q = c.args.group.now in
    let x = c.member-item.result in
    c.requires.group.nodes x
    (subst (Has q) (sym c.member-item.is) (has_place q c.loop-member.member-index x c.loop-member-test.true))

pub loop-member-preserved : goal.loop-member-preserved
loop-member-preserved g c =
    let graph = c.args.graph.now in
    let q = c.args.group.now in
    let i = c.loop-member.member-index in
    let x = c.member-item.result in
    let l = c.loop-member-test.true in
    let e : x ≡ slice_index q i = read_at q i x l c.member-item.is in
    let at = c.place_among-place.ensures in
    subst (λ (places : List ℕ). AreMemberPlacesSoFar graph (take (i + 1) q) places c.put.new.row)
    (sym c.in_ok-push.ensures.items)
    (places_more graph q c.loop-member.places.items c.loop-member.row c.put.new.row i x c.place_among-place.result
    at.below
    at.there l e c.put.ensures c.loop-member.invariant)

pub invariant_of-result : goal.invariant_of-result
invariant_of-result g c =
    let graph = c.args.graph.now in
    let q = c.args.group.now in
    let places = c.loop-member.places.items in
    let so_far = subst (λ (xs : List ℕ). AreMemberPlacesSoFar graph xs places c.loop-member.row)
    (take_all c.loop-member.member-index q c.loop-member-test.false) c.loop-member.invariant in (
      places_all graph q places c.loop-member.row c.nodes.ensures.graph c.nodes.ensures.within c.requires.group so_far,
      c.requires.room,
    )
