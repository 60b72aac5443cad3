-- the result for all entries is the result for the entries still left
use Rattle.std.proofs.Common.{◌≡◌, ◌+◌, take, drop, length}
use Rattle.ov_cert.specs.Code.Tests.{pairs_fault, pairs_after}
use Rattle.ov_cert.proofs.entry_judging.check_pairs.Given as goal

abbrev pub invariant-loop-place : goal.invariant-loop-place
invariant-loop-place l = record {
  left : pairs_fault l.graph l.k l.entries l.count (pairs_after l.graph (take l.place l.first) (drop l.place l.first)) ≡
      pairs_fault l.graph l.k l.entries 0 (pairs_after l.graph (take 0 l.first) l.first);
  count : l.count + length (pairs_after l.graph (take l.place l.first) (drop l.place l.first)) ≡ length
      (pairs_after l.graph (take 0 l.first) l.first);
}
