-- What came of the line is told of it.
use Rattle.std.proofs.Common.{subst}
use Rattle.ov_run_meaning.specs.Sections.{RunsLine}
use Rattle.ov_run.proofs.Blocks.SectionLines.{told_as}
use Rattle.ov_scenario.specs.Sections.{SectionLine}
use Rattle.ov_run.proofs.section_running.run_line.Goals as goal

pub returns : goal.returns
returns g c =
    let ran = c.run_deed-outcome.result in (
      ran.0,
      subst (λ (l : SectionLine). RunsLine g.N.HallName.params c.args.pass l.deed ran.0 ran.1) c.line.view_is
          c.run_deed-outcome.ensures,
      told_as c.line.inside.number c.line.inside.text.now c.line.inside.deed c.is_event-is_event.result ran.0
          c.args.line c.line.view_is c.is_event-is_event.ensures,
    )
