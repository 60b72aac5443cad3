-- the names that list themselves by the listings so far
use Rattle.std.proofs.Common.{◌↔◌, ℕ, List, take}
use Rattle.ov_ids.specs.Members.{Has}
use Rattle.ov_dump.specs.Dumps.{ends_of}
use Rattle.ov_dump.proofs.names_listing_themselves.self_listed.Given as goal

abbrev pub invariant-loop-listing : goal.invariant-loop-listing
invariant-loop-listing l = (n : List ℕ) → Has l.names n ↔ Has (ends_of (take l.listing-index l.listings)) (n, n)
