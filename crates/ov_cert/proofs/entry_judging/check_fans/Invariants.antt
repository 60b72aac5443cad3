-- the result for all entries is the result for the entries still left
use Rattle.std.proofs.Common.{◌≡◌, drop}
use Rattle.ov_cert.specs.Code.Tests.{fans_fault}
use Rattle.ov_cert.proofs.entry_judging.check_fans.Given as goal

abbrev pub invariant-loop-place : goal.invariant-loop-place
invariant-loop-place l = fans_fault l.graph l.group l.k l.entries l.place (drop l.place l.later) ≡ fans_fault l.graph
    l.group l.k l.entries 0 l.later
