-- none so far
use Rattle.std.proofs.Common.{ℕ, take}
use Rattle.ov_ids.specs.Members.{Has}
use Rattle.ov_graph.specs.Row.{HasBit}
use Rattle.ov_graph.proofs.listed_neighbour_places.first_within_of.Given as goal

abbrev pub invariant-loop-place : goal.invariant-loop-place
invariant-loop-place g l = (q : ℕ) → Has (take l.place-index l.places) q → ¬ HasBit l.set q
