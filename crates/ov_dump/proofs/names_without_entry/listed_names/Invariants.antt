-- the names that the listings so far list
use Rattle.std.proofs.Common.{take}
use Rattle.ov_dump.specs.Code.Listed.{Missing}
use Rattle.ov_dump.proofs.names_without_entry.listed_names.Given as goal

abbrev pub invariant-loop-listing : goal.invariant-loop-listing
invariant-loop-listing l = Missing (take l.listing-index l.listings) l.entries l.names
