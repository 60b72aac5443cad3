-- the result for all nodes is the result for the nodes still left
use Rattle.std.proofs.Common.{◌≡◌, drop, slice_get}
use Rattle.ov_cert.specs.Code.Tests.{unlinked_before}
use Rattle.ov_cert.proofs.linked_members.unlinked_with.Given as goal

abbrev pub invariant-loop-i : goal.invariant-loop-i
invariant-loop-i l = slice_get (unlinked_before l.graph (drop l.i-index l.earlier) l.j) 0 ≡ slice_get
    (unlinked_before l.graph l.earlier l.j) 0
