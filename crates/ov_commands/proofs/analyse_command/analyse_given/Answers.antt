-- The lists are those that the arguments give.
use Rattle.std.proofs.lemmas.Result.{IfOk-weaker}
use Rattle.ov_commands.specs.Alarms.{IsStatusAsked, IsStatusOfReader}
use Rattle.ov_commands.specs.Naming.{asked_of}
use Rattle.ov_commands.proofs.Alarms.{asked_by}
use Rattle.ov_commands.proofs.analyse_command.analyse_given.Goals as goal

pub returns-clause-answer : goal.returns-clause-answer
returns-clause-answer g c =
    let analysis = c.args.analysis.now in
    let asked = asked_of analysis c.in_ok-lists.lists in
    let given = c.in_ok-lists.ensures in
    let reader = g.R.Read.remaining c.args.reader in
    IfOk-weaker c.analyse_from.result (IsStatusOfReader reader asked) (IsStatusAsked reader analysis)
    (λ status is. (asked, asked_by analysis c.in_ok-lists.lists given.gone given.group, is)) c.analyse_from.ensures.answer
