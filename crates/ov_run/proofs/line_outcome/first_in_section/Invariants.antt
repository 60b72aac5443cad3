-- the first line that was refused is the first of those that are left
use Rattle.std.proofs.Common.{◌≡◌, drop}
use Rattle.ov_run.specs.Code.Outcomes.{first_refused}
use Rattle.ov_run.proofs.line_outcome.first_in_section.Given as goal

abbrev pub invariant-loop-one : goal.invariant-loop-one
invariant-loop-one l = first_refused (drop l.one-index l.told) ≡ first_refused l.told
