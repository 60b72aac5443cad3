-- those that were accepted so far, and those among the lines that are left
use Rattle.std.proofs.Common.{◌≡◌, ◌≤◌, ◌+◌, drop}
use Rattle.ov_run_meaning.specs.Sections.{accepted_in}
use Rattle.ov_run.proofs.line_outcome.count_accepted.Given as goal

abbrev pub invariant-loop-line : goal.invariant-loop-line
invariant-loop-line l = record {
  accepted : l.accepted + accepted_in (drop l.line-index l.told) ≡ accepted_in l.told;
  few : l.accepted ≤ l.line-index;
}
