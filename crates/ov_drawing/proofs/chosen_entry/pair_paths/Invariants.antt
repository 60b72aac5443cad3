-- the answer is that of the entries that are left
use Rattle.std.proofs.Common.{◌≡◌, drop}
use Rattle.ov_drawing.specs.Chosen.{pair_paths}
use Rattle.ov_drawing.proofs.chosen_entry.pair_paths.Given as goal

abbrev pub invariant-loop-entry : goal.invariant-loop-entry
invariant-loop-entry l = pair_paths l.i l.j (drop l.entry-index l.pairs) ≡ pair_paths l.i l.j l.pairs
