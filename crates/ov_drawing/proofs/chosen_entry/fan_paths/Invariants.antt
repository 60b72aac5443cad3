-- the answer is that of the entries that are left
use Rattle.std.proofs.Common.{◌≡◌, drop}
use Rattle.ov_drawing.specs.Chosen.{fan_paths}
use Rattle.ov_drawing.proofs.chosen_entry.fan_paths.Given as goal

abbrev pub invariant-loop-entry : goal.invariant-loop-entry
invariant-loop-entry l = fan_paths l.j (drop l.entry-index l.fans) ≡ fan_paths l.j l.fans
