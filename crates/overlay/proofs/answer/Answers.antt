-- The status is one of what the arguments ask for.
use Rattle.std.proofs.Common.{map, string_bytes}
use Rattle.std.proofs.lemmas.Result.{IfOk-weaker}
use Rattle.overlay.specs.Program.{IsStatusGiven, IsStatusOf}
use Rattle.overlay.proofs.Alarms.{status_given}
use Rattle.overlay.proofs.answer.Goals as goal

pub returns-in-Ok-clause-status : goal.returns-in-Ok-clause-status
returns-in-Ok-clause-status g c =
    let arguments = map (λ argument. string_bytes argument) c.args.arguments.now in
    let request = c.in-Ok.request in
    IfOk-weaker c.do_asked-done.result (IsStatusOf request) (IsStatusGiven arguments)
    (λ status is. status_given arguments request status c.in-Ok.ensures.given is) c.do_asked-done.ensures.status
