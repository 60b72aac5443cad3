-- who lists whom by the listings so far
use Rattle.std.proofs.Common.{◌↔◌, ℕ, List, take}
use Rattle.ov_ids.specs.Members.{Has}
use Rattle.ov_dump.specs.Dumps.{ends_of}
use Rattle.ov_dump.proofs.unanswered_listings.pairs_of.Given as goal

abbrev pub invariant-loop-listing : goal.invariant-loop-listing
invariant-loop-listing l = (p : List ℕ × List ℕ) → Has l.said p ↔ Has (ends_of (take l.listing-index l.listings)) p
