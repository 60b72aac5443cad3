-- the places with the keys so far
use Rattle.ov_dump.specs.Code.Numbering.{AreByKey}
use Rattle.ov_dump.proofs.node_numbering.places_by_key.Given as goal

abbrev pub invariant-loop-key : goal.invariant-loop-key
invariant-loop-key l = AreByKey l.count l.key l.places.items
