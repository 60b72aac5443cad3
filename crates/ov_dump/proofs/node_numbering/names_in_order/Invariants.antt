-- the names at the places so far
use Rattle.std.proofs.Common.{◌≡◌, map, take}
use Rattle.ov_dump.proofs.Numberings.{name_at}
use Rattle.ov_dump.proofs.node_numbering.names_in_order.Given as goal

abbrev pub invariant-loop-place : goal.invariant-loop-place
invariant-loop-place l = l.names.items ≡ map (name_at l.sorted) (take l.place-index l.order)
