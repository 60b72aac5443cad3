-- the names of the listings so far were taken
use Rattle.std.proofs.Common.{take}
use Rattle.std.specs.List.{flat_map}
use Rattle.ov_graph.specs.Links.{most_of}
use Rattle.ov_dump.specs.Code.Taking.{Gains}
use Rattle.ov_dump.specs.Faults.{listing_namings}
use Rattle.ov_dump.proofs.node_names_by_choice.take_listings.Given as goal

abbrev pub invariant-loop-listing : goal.invariant-loop-listing
invariant-loop-listing l = Gains (most_of l.limit) l.fn.names (flat_map listing_namings
    (take l.listing-index l.listings)) l.names
