-- One listing more.
use Rattle.std.proofs.Common.{◌↔◌, ℕ, List, take, sym, subst}
use Rattle.ov_ids.specs.Members.{Has}
use Rattle.ov_dump.specs.Dumps.{ends_of}
use Rattle.ov_dump.specs.declared.dump_and_graph_types.Listing.{Listing}
use Rattle.ov_dump.proofs.Places.{taken_next}
use Rattle.ov_dump.proofs.Answering.{pairs_more}
use Rattle.ov_dump.proofs.unanswered_listings.pairs_of.Goals as goal

pub loop-listing-preserved : goal.loop-listing-preserved
loop-listing-preserved c =
    let listings = c.args.listings.now in
    let i = c.loop-listing.listing-index in
    let l = c.listing-item.result in
    let next = taken_next listings i l c.loop-listing-test.true c.listing-item.is in
    subst (λ (ls : List Listing). (p : List ℕ × List ℕ) → Has c.insert.new.self p ↔ Has (ends_of ls) p) (sym next)
    (pairs_more (take i listings) l c.loop-listing.said c.insert.new.self c.loop-listing.invariant
    c.in_ok-insert.ensures.pairs)
