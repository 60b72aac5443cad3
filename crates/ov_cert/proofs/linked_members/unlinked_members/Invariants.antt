-- the result for all members is the result for the members still left
use Rattle.std.proofs.Common.{◌≡◌, [], take, drop, slice_get}
use Rattle.ov_cert.specs.Code.Tests.{pairs_after}
use Rattle.ov_cert.proofs.linked_members.unlinked_members.Given as goal

abbrev pub invariant-loop-place : goal.invariant-loop-place
invariant-loop-place l = slice_get (pairs_after l.graph (take l.place l.group) (drop l.place l.group)) 0 ≡ slice_get
    (pairs_after l.graph [] l.group) 0
