-- A report that is filed refuses the analysis, and no refusal stands for the report of what it was given.
use Rattle.std.proofs.Common.{◌∙◌, None, Ok, refl, sym}
use Rattle.ov_run_meaning.proofs.Reports.Filed.{begun, job_filed}
use Rattle.ov_grow.specs.Recordings.{all_of}
use Rattle.ov_grow.proofs.Reporting.{none_filed, refused_again}
use Rattle.ov_grow.proofs.report_making.report_of.Goals as goal

pub returns-then-is_some-clause-refused : goal.returns-then-is_some-clause-refused
returns-then-is_some-clause-refused c =
    refused_again c.args.core.now c.args.moment c.report.result c.report.ensures.some c.report.ensures.is_true
    c.if-is_some.ensures

pub returns-clause-filing : goal.returns-clause-filing
returns-clause-filing c =
    let b = c.args.core.now in
    let s = all_of c.args.moment in
    let at = c.in_ok-snapshot in
    let made = c.make_report.ensures in
    let free = none_filed b c.args.moment c.report.result c.report.ensures.none
    (sym c.is_some.ensures ∙ c.if-is_some.false) in
    let judged = begun b s None (Ok at.snapshot) free refl at.ensures.judged in
    job_filed b s at.snapshot.moment at.snapshot.graph c.world.ensures.sound judged at.ensures.moment at.ensures.links
    c.make_report.result made.moment made.graph made.members
