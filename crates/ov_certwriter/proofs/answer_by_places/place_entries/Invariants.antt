-- The entries so far are those of the pieces so far.
use Rattle.std.proofs.Common.{◌≡◌, map, take}
use Rattle.ov_even.specs.Naming.{named_of}
use Rattle.ov_even.specs.Code.Entries.{pair_entries, fan_entries}
use Rattle.ov_certwriter.proofs.answer_by_places.place_entries.Given as goal

abbrev pub invariant-loop-piece : goal.invariant-loop-piece
invariant-loop-piece l = record {
  pairs : l.pairs.items ≡ pair_entries l.group (map (named_of l.graph l.group) (take l.piece-index l.found));
  fans : l.fans.items ≡ fan_entries l.group (map (named_of l.graph l.group) (take l.piece-index l.found));
}
