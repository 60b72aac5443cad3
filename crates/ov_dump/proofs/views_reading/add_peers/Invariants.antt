-- what the items so far list
use Rattle.std.proofs.Common.{drop}
use Rattle.json.specs.Value.{items_view}
use Rattle.ov_dump.proofs.Viewing.{Lists}
use Rattle.ov_dump.proofs.views_reading.add_peers.Given as goal

abbrev pub invariant-loop-item : goal.invariant-loop-item
invariant-loop-item l =
    Lists l.at l.name (items_view l.items) l.fn.listings.items l.listings.items (items_view (drop l.item-index l.items))
