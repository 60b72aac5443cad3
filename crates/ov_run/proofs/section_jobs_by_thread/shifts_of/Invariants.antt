-- the jobs that were taken in, and those that are left
use Rattle.std.proofs.Common.{◌≡◌, ◌++◌, flat_map}
use Rattle.ov_run.proofs.section_jobs_by_thread.shifts_of.Given as goal

abbrev pub invariant-loop-job : goal.invariant-loop-job
invariant-loop-job g l =
    (flat_map (λ shift. shift.jobs.items) l.shifts.made.items ++ l.shifts.next.items) ++ l.job-iterator.rest.items
    ≡ l.fn.jobs.items
