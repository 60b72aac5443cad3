-- the keys of ranks so far
use Rattle.ov_scatter.proofs.Keyed.{KeysSoFar}
use Rattle.ov_scatter.proofs.ids_in_copy.keys_by_place.Given as goal

abbrev pub invariant-loop-rank : goal.invariant-loop-rank
invariant-loop-rank l = KeysSoFar l.order l.rank l.keys.items
