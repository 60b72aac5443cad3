-- One listing more, and all.
use Rattle.std.proofs.Common.{◌≢◌, ◌↔◌, ℕ, List, take, take_all, sym, subst}
use Rattle.ov_dump.specs.Code.Numbering.{Follows, NodeLists}
use Rattle.ov_dump.specs.declared.dump_and_graph_types.Listing.{Listing}
use Rattle.ov_dump.proofs.Places.{taken_next}
use Rattle.ov_dump.proofs.Linking.{FollowsSoFar, follows_more}
use Rattle.ov_dump.proofs.listing_pairs.listing_pairs.Goals as goal

pub loop-listing-preserved : goal.loop-listing-preserved
loop-listing-preserved c =
    let names = c.args.numbering.now.names.items in
    let listings = c.args.listings.now in
    let i = c.loop-listing.listing-index in
    let l = c.listing-item.result in
    let up = c.add_listing.new.up.items in
    let down = c.add_listing.new.down.items in
    let added = c.in_ok-add_listing.ensures in
    subst (λ (ls : List Listing). FollowsSoFar names ls up down)
    (sym (taken_next listings i l c.loop-listing-test.true c.listing-item.is))
    (follows_more names (take i listings) l c.loop-listing.up.items c.loop-listing.down.items up down
    c.loop-listing.invariant added.up added.down added.lists)

pub returns-clause-lists : goal.returns-clause-lists
returns-clause-lists c =
    let s = c.loop-listing in
    let names = c.args.numbering.now.names.items in
    let all = take_all s.listing-index c.args.listings.now c.loop-listing-test.false in
    subst (λ (ls : List Listing). (i j : ℕ) → i ≢ j
    → (Follows s.up.items s.down.items i j ↔ NodeLists names ls i j)) all s.invariant.lists
