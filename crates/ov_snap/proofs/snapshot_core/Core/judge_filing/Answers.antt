use Rattle.std.proofs.Common.{◌∙◌, sym}
use Rattle.ov_snap.proofs.DeskCalls.{desk_filed_again, some_of}
use Rattle.ov_snap.proofs.snapshot_core.Core.judge_filing.Goals as goal

pub returns-then-is_some-clause-err : goal.returns-then-is_some-clause-err
returns-then-is_some-clause-err c =
    let d = c.in_ok-own.own.now in
    let r = some_of _ c.group_report.result (sym c.is_some.ensures ∙ c.if-is_some.true) c.group_report.ensures.some in
    desk_filed_again c.args.self.now c.args.desk d c.moment.result c.members.result.now r.0.now c.in_ok-own.ensures.has
    (c.have_all_ended.ensures.0 c.if-not-have_all_ended.false) c.moment.ensures c.members.ensures r.1
