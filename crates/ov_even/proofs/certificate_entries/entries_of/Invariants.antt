-- The entries so far are those of the pieces yielded so far.
use Rattle.std.proofs.Common.{◌≡◌, ◌++◌}
use Rattle.ov_even.specs.Code.Entries.{pair_entries, fan_entries}
use Rattle.ov_even.proofs.certificate_entries.entries_of.Given as goal

abbrev pub invariant-loop-piece : goal.invariant-loop-piece
invariant-loop-piece l = record {
  rest : l.yielded ++ l.piece-iterator.rest.items ≡ l.fn.named.items;
  pairs : l.pairs.items ≡ pair_entries l.group l.yielded;
  fans : l.fans.items ≡ fan_entries l.group l.yielded;
}
