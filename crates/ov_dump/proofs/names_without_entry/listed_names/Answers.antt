-- One listing more.
use Rattle.std.proofs.Common.{List, take, sym, subst}
use Rattle.ov_dump.specs.Code.Listed.{Missing}
use Rattle.ov_dump.specs.declared.dump_and_graph_types.Listing.{Listing}
use Rattle.ov_dump.proofs.Places.{taken_next}
use Rattle.ov_dump.proofs.Answering.{missing_more}
use Rattle.ov_dump.proofs.names_without_entry.listed_names.Goals as goal

pub loop-listing-preserved : goal.loop-listing-preserved
loop-listing-preserved c =
    let listings = c.args.listings.now in
    let i = c.loop-listing.listing-index in
    let l = c.listing-item.result in
    let next = taken_next listings i l c.loop-listing-test.true c.listing-item.is in
    subst (λ (ls : List Listing). Missing ls c.args.entries.now c.add_unless_in.new.names) (sym next)
    (missing_more (take i listings) l c.args.entries.now c.loop-listing.names c.add_unless_in.new.names
    c.loop-listing.invariant c.in_ok-add_unless_in.ensures)
