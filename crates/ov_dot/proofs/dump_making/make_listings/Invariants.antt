-- the listings so far
use Rattle.std.proofs.Common.{◌≡◌, take}
use Rattle.std.specs.Prelude.{map}
use Rattle.ov_dot.specs.Dumps.{listing_of}
use Rattle.ov_dot.specs.Code.Seen.{ends}
use Rattle.ov_dot.proofs.dump_making.make_listings.Given as goal

abbrev pub invariant-loop-link : goal.invariant-loop-link
invariant-loop-link l = l.listings.items ≡ map listing_of (map ends (take l.link-index l.links))
