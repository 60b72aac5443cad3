-- One listing more.
use Rattle.std.proofs.Common.{suc, take, drop, sym, subst}
use Rattle.std.proofs.lemmas.Result.{err_from_is_err_and}
use Rattle.ov_dump.specs.Faults.{AreSoundListings}
use Rattle.ov_dump.proofs.Places.{parted_at, taken_next}
use Rattle.ov_dump.proofs.Sounding.{flaw_listed, more_listed}
use Rattle.ov_dump.proofs.entry_and_listing_soundness.judge_listings.Goals as goal

pub loop-listing-preserved : goal.loop-listing-preserved
loop-listing-preserved c =
    let listings = c.args.listings.now in
    let i = c.loop-listing.listing-index in
    let l = c.listing-item.result in
    let next = taken_next listings i l c.loop-listing-test.true c.listing-item.is in
    subst AreSoundListings (sym next)
    (more_listed (take i listings) l c.loop-listing.invariant c.in_ok-judge_listing.ensures.sound)

pub returns-in_err-judge_listing-clause-fault : goal.returns-in_err-judge_listing-clause-fault
returns-in_err-judge_listing-clause-fault c =
    let listings = c.args.listings.now in
    let i = c.loop-listing.listing-index in
    let l = c.listing-item.result in
    let split = parted_at listings i l c.loop-listing-test.true c.listing-item.is in
    let p = err_from_is_err_and c.from_residual.result c.from_residual.ensures.1 in
    rw (p.1, p.2) (flaw_listed listings (take i listings) (drop (suc i) listings) l c.in_err-judge_listing.field-0.0
    c.loop-listing.invariant split c.in_err-judge_listing.ensures.fault)
