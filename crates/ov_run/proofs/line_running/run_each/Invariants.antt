-- what was printed so far; in a strict run each line so far was accepted
use Rattle.std.proofs.Common.{◌≡◌, ◌≤◌, ℕ, List, length}
use Rattle.std.specs.Io.KnownBytes.{Appends}
use Rattle.ov_scenario.specs.RunLines.{drivers_for}
use Rattle.ov_run_meaning.specs.declared.strictness.Strictness.TheVariants.{Strict}
use Rattle.ov_run.proofs.Printing.Running.{AcceptedSoFar, SoFar}
use Rattle.ov_run.proofs.line_running.run_each.Given as goal

abbrev pub invariant-loop-recent : goal.invariant-loop-recent
invariant-loop-recent g l = record {
  printed : (text : List ℕ) × SoFar l.fn.strictness l.fn.hall l.fn.lines.items l.hall l.left.items text
      × Appends (g.W.Write.contents l.fn.sink.writer) (g.W.Write.contents l.sink.writer) text
      × (l.fn.strictness ≡ Strict
      → AcceptedSoFar l.fn.hall l.fn.lines.items l.fn.lines.file_lines l.hall l.left.items l.left.file_lines text);
  drivers : drivers_for l.left.items ≤ g.N.HallName.drivers;
  faults : l.sink.faults ≡ l.fn.sink.faults;
}

abbrev pub decreases-loop-recent : goal.decreases-loop-recent
decreases-loop-recent g l = length l.left.items
