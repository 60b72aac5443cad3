-- what was told of the listings so far
use Rattle.ov_dump.proofs.Answering.{Told}
use Rattle.ov_dump.proofs.unanswered_listings.listed_by_one.Given as goal

abbrev pub invariant-loop-place : goal.invariant-loop-place
invariant-loop-place l = Told l.listings l.place l.told l.places.items
