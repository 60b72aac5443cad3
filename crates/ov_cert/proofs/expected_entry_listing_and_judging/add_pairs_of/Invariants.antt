-- the entries so far, with the pairs still left, are all entries
use Rattle.std.proofs.Common.{◌≡◌, drop}
use Rattle.ov_cert.specs.Code.Tests.{unlinked_before}
use Rattle.ov_cert.proofs.EntryOrder.Listed.{with_pairs}
use Rattle.ov_cert.proofs.expected_entry_listing_and_judging.add_pairs_of.Given as goal

abbrev pub invariant-loop-i : goal.invariant-loop-i
invariant-loop-i l = with_pairs l.entries.items (unlinked_before l.graph (drop l.i-index l.earlier) l.j) ≡ with_pairs
    l.fn.entries.items (unlinked_before l.graph l.earlier l.j)
