-- the set of the places so far
use Rattle.std.proofs.Common.{◌↔◌, ℕ, take}
use Rattle.ov_ids.specs.Members.{Has}
use Rattle.ov_graph.specs.Row.{HasBit}
use Rattle.ov_graph.proofs.listed_neighbour_places.set_of.Given as goal

abbrev pub invariant-loop-place : goal.invariant-loop-place
invariant-loop-place g l = (q : ℕ) → HasBit l.set q ↔ Has (take l.place-index l.places) q
