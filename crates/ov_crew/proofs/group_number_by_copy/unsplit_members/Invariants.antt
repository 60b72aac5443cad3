-- So many are members of the group.
use Rattle.std.proofs.Common.{◌≤◌, length}
use Rattle.ov_crew.proofs.group_number_by_copy.unsplit_members.Given as goal

abbrev pub invariant-loop : goal.invariant-loop
invariant-loop g l = l.count ≤ length l.group
