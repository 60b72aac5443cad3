-- No refusal stands for the report of what the analysis was given.
use Rattle.ov_run_meaning.proofs.Reports.Filed.{job_filed}
use Rattle.ov_run.proofs.report_making_and_filing.report_for.Goals as goal

pub returns-clause-filing : goal.returns-clause-filing
returns-clause-filing g c =
    let snapshot = c.in_ok-snapshot in
    let made = c.report_about.ensures in
    job_filed c.args.core.now c.args.subject.now snapshot.snapshot.moment snapshot.snapshot.graph
    snapshot.ensures.sound snapshot.ensures.judged snapshot.ensures.moment snapshot.ensures.links
    c.report_about.result made.moment made.graph made.members
