-- the entries so far, with the fans still left, are all entries
use Rattle.std.proofs.Common.{◌≡◌, ◌++◌, drop}
use Rattle.ov_cert.specs.Entries.{of_fans}
use Rattle.ov_cert.proofs.expected_entry_listing_and_judging.add_fans.Given as goal

abbrev pub invariant-loop-at : goal.invariant-loop-at
invariant-loop-at l = l.entries.items ++ of_fans l.at (drop l.at l.later) ≡ l.fn.entries.items ++ of_fans 0 l.later
