-- the first line that was refused is the first of the sections that are left
use Rattle.std.proofs.Common.{◌≡◌, drop}
use Rattle.ov_run.specs.Code.Jobs.{joined}
use Rattle.ov_run.specs.Code.Outcomes.{first_refused}
use Rattle.ov_run.proofs.line_outcome.first_refused.Given as goal

abbrev pub invariant-loop-section : goal.invariant-loop-section
invariant-loop-section l = first_refused (joined (drop l.section-index l.told)) ≡ first_refused (joined l.told)
