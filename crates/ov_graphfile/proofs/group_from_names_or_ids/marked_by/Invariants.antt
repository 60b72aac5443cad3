-- The places of the nodes that the parts so far mean.
use Rattle.std.proofs.Common.{map}
use Rattle.ov_graphfile.specs.Code.Owners.{AreMarked}
use Rattle.ov_graphfile.proofs.group_from_names_or_ids.marked_by.Given as goal

abbrev pub invariant-loop-at : goal.invariant-loop-at
invariant-loop-at l = AreMarked l.names (map (λ part. part.now) l.parts) l.row l.at
