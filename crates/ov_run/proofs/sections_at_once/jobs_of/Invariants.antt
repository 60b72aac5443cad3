-- the jobs so far, and those of the drivers and the sections that are left; there is room for all
use Rattle.std.proofs.Common.{◌≡◌, ◌≤◌, ◌+◌, ◌++◌, length, vec_capacity}
use Rattle.ov_run.specs.Code.Jobs.{jobs_of}
use Rattle.ov_run.proofs.sections_at_once.jobs_of.Given as goal

abbrev pub invariant-loop-pass : goal.invariant-loop-pass
invariant-loop-pass g l = record {
  jobs : l.jobs.items ++ jobs_of l.pass-iterator.rest.items l.left.rest.items
      ≡ jobs_of l.fn.passes.items l.fn.sections.items;
  room : length l.jobs.items + length l.pass-iterator.rest.items ≤ vec_capacity l.jobs;
}
