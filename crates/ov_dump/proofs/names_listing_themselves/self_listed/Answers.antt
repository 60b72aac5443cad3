-- One listing more.
use Rattle.std.proofs.Common.{◌↔◌, ℕ, List, take, sym, subst}
use Rattle.ov_ids.specs.Members.{Has}
use Rattle.ov_dump.specs.Dumps.{ends_of}
use Rattle.ov_dump.specs.declared.dump_and_graph_types.Listing.{Listing}
use Rattle.ov_dump.proofs.Places.{taken_next}
use Rattle.ov_dump.proofs.Answering.{self_more}
use Rattle.ov_dump.proofs.names_listing_themselves.self_listed.Goals as goal

pub loop-listing-preserved : goal.loop-listing-preserved
loop-listing-preserved c =
    let listings = c.args.listings.now in
    let i = c.loop-listing.listing-index in
    let l = c.listing-item.result in
    let next = taken_next listings i l c.loop-listing-test.true c.listing-item.is in
    subst (λ (ls : List Listing). (n : List ℕ) → Has c.add_if_same.new.names n ↔ Has (ends_of ls) (n, n)) (sym next)
    (self_more (take i listings) l c.loop-listing.names c.add_if_same.new.names c.loop-listing.invariant
    c.in_ok-add_if_same.ensures)
