-- who lists whom by the listings so far
use Rattle.std.proofs.Common.{take}
use Rattle.ov_dump.proofs.Linking.{FollowsSoFar}
use Rattle.ov_dump.proofs.listing_pairs.listing_pairs.Given as goal

abbrev pub invariant-loop-listing : goal.invariant-loop-listing
invariant-loop-listing l =
    FollowsSoFar l.numbering.names.items (take l.listing-index l.listings) l.up.items l.down.items
