-- the ids of members so far
use Rattle.ov_scatter.proofs.Copied.{AreFirstIds}
use Rattle.ov_scatter.proofs.scattering.ids_of_group.Given as goal

abbrev pub invariant-loop-member : goal.invariant-loop-member
invariant-loop-member l = AreFirstIds l.graph l.keys l.group l.member-index l.ids.items
