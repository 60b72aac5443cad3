-- what came of the lines so far is told, and there is room for the others
use Rattle.std.proofs.Common.{◌≤◌, ◌+◌, length, vec_capacity}
use Rattle.ov_run.proofs.Blocks.SectionLines.{SectionSoFar}
use Rattle.ov_run.proofs.section_running.run_section.Given as goal

abbrev pub invariant-loop-line : goal.invariant-loop-line
invariant-loop-line g l = record {
  so_far : SectionSoFar g.N.HallName.params l.fn.job.0 l.fn.job.1 l.pass l.line-iterator.rest.items l.told.items;
  room : length l.told.items + length l.line-iterator.rest.items ≤ vec_capacity l.told;
}
