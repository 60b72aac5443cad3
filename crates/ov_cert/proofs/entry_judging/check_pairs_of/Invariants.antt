-- the result for all entries is the result for the entries still left
use Rattle.std.proofs.Common.{◌≡◌, ◌+◌, drop, length}
use Rattle.ov_cert.specs.Code.Tests.{pairs_fault, unlinked_before}
use Rattle.ov_cert.proofs.entry_judging.check_pairs_of.Given as goal

abbrev pub invariant-loop-i : goal.invariant-loop-i
invariant-loop-i l = record {
  left : pairs_fault l.graph l.k l.entries l.next (unlinked_before l.graph (drop l.i-index l.earlier) l.j) ≡ pairs_fault
      l.graph l.k l.entries l.place (unlinked_before l.graph l.earlier l.j);
  count : l.next + length (unlinked_before l.graph (drop l.i-index l.earlier) l.j) ≡ l.place + length
      (unlinked_before l.graph l.earlier l.j);
}
