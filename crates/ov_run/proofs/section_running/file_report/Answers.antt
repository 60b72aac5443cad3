-- The report was filed, or refused.
use Rattle.ov_run_meaning.specs.Sections.{IsReportOn}
use Rattle.ov_run.proofs.Blocks.SectionLines.{files, files_not}
use Rattle.ov_run.proofs.section_running.file_report.Goals as goal

pub returns-in-Ok-clause-filed : goal.returns-in-Ok-clause-filed
returns-in-Ok-clause-filed g c =
    let made = c.in-Ok.ensures in
    let on : IsReportOn c.args.snapshot.now c.in-Ok.report = record {
      moment = made.moment;
      graph = made.graph;
      members = made.members;
      answer = made.answer;
    } in
    files g.N.HallName.params c.args.pass c.args.snapshot.now c.file.result.1 c.in-Ok.report c.file.result.0 on
    c.file.ensures.filed

pub returns-in-Ok-clause-refused : goal.returns-in-Ok-clause-refused
returns-in-Ok-clause-refused g c =
    let made = c.in-Ok.ensures in
    let on : IsReportOn c.args.snapshot.now c.in-Ok.report = record {
      moment = made.moment;
      graph = made.graph;
      members = made.members;
      answer = made.answer;
    } in
    files_not g.N.HallName.params c.args.pass c.args.snapshot.now c.file.result.1 c.in-Ok.report c.file.result.0 on
    c.file.ensures.refused c.file.ensures.err
