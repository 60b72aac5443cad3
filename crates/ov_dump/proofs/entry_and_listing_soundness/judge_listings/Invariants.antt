-- the listings so far are sound
use Rattle.std.proofs.Common.{take}
use Rattle.ov_dump.specs.Faults.{AreSoundListings}
use Rattle.ov_dump.proofs.entry_and_listing_soundness.judge_listings.Given as goal

abbrev pub invariant-loop-listing : goal.invariant-loop-listing
invariant-loop-listing l = AreSoundListings (take l.listing-index l.listings)
