-- the entries so far, with the pairs still left, are all entries
use Rattle.std.proofs.Common.{◌≡◌, take, drop, []}
use Rattle.ov_cert.specs.Entries.{of_pairs}
use Rattle.ov_cert.specs.Code.Tests.{pairs_after}
use Rattle.ov_cert.proofs.EntryOrder.Listed.{with_pairs}
use Rattle.ov_cert.proofs.expected_entry_listing_and_judging.add_pairs.Given as goal

abbrev pub invariant-loop-place : goal.invariant-loop-place
invariant-loop-place l = with_pairs l.entries.items (pairs_after l.graph (take l.place l.first) (drop l.place l.first))
    ≡ of_pairs 0 (pairs_after l.graph [] l.first)
