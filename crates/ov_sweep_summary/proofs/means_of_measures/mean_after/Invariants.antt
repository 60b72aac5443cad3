-- the numbers so far, and those of the runs that are left; each is of 64 bits
use Rattle.std.proofs.Common.{◌≡◌, ◌≤◌, ◌+◌, ◌*◌, drop, length, map}
use Rattle.std.specs.Prelude.{sum}
use Rattle.ov_sweep_summary.specs.Means.{known_after, most_parts}
use Rattle.ov_sweep_summary.proofs.means_of_measures.mean_after.Given as goal

abbrev pub invariant-loop-run : goal.invariant-loop-run
invariant-loop-run l = record {
  total : l.total + sum (known_after l.phase l.measured l.place (map (λ run. run.now) (drop l.run-index l.runs)))
      ≡ sum (known_after l.phase l.measured l.place (map (λ run. run.now) l.runs));
  count : l.count + length (known_after l.phase l.measured l.place (map (λ run. run.now) (drop l.run-index l.runs)))
      ≡ length (known_after l.phase l.measured l.place (map (λ run. run.now) l.runs));
  few : l.count ≤ l.run-index;
  most : l.total ≤ l.count * most_parts;
}
