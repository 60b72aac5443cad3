-- The analysis of a subject begins, or is refused, as that of all nodes of the moment or of the group.
use Rattle.std.proofs.Common.{◌∙◌, None, Some, ap, sym}
use Rattle.ov_run_meaning.proofs.Reports.Filed.{begun, not_begun}
use Rattle.ov_run.proofs.report_making_and_filing.begin.Goals as goal

pub returns-in-None-clause-judged : goal.returns-in-None-clause-judged
returns-in-None-clause-judged c =
    begun c.args.core.now c.args.subject.now None c.begin.result c.requires.free c.in-None.is c.begin.ensures.judged

pub returns-in-None-clause-refused : goal.returns-in-None-clause-refused
returns-in-None-clause-refused c =
    not_begun c.args.core.now c.args.subject.now None c.begin.result c.requires.free c.in-None.is
    c.begin.ensures.refused

pub returns-in-Some-clause-judged : goal.returns-in-Some-clause-judged
returns-in-Some-clause-judged c =
    begun c.args.core.now c.args.subject.now (Some c.as_slice.result.now) c.begin_group.result c.requires.free
    (c.in-Some.is ∙ ap Some (sym c.as_slice.ensures)) c.begin_group.ensures.judged

pub returns-in-Some-clause-refused : goal.returns-in-Some-clause-refused
returns-in-Some-clause-refused c =
    not_begun c.args.core.now c.args.subject.now (Some c.as_slice.result.now) c.begin_group.result c.requires.free
    (c.in-Some.is ∙ ap Some (sym c.as_slice.ensures)) c.begin_group.ensures.refused
