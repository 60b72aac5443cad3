-- What the plan by the next words promises, said of the words of the event.
use Rattle.std.proofs.Common.{arith}
use Rattle.std.proofs.lemmas.Result.{IfOk-weaker}
use Rattle.ov_peer.proofs.peer.Peer.plan.Goals as goal

pub returns-clause-planned : goal.returns-clause-planned
returns-clause-planned c =
    IfOk-weaker c.plan_by.result _ _
    (λ g h. (
      c.plan_by.new.draws,
      omega (arith, h.words, c.new-draws.ensures.count),
      rw c.new-draws.ensures.value at h.planned,
    )) c.plan_by.ensures.plan

pub returns-clause-fits : goal.returns-clause-fits
returns-clause-fits c =
    IfOk-weaker c.plan_by.result _ _
    (λ g h. record { input = c.args.input; choices = h.planned.0; planned = h.planned.2 }) c.plan_by.ensures.plan

pub returns-clause-few : goal.returns-clause-few
returns-clause-few c =
    IfOk-weaker c.plan_by.result _ _
    (λ g h.
    let l = h.sendable.0 in
    let o = g.sends.ok.0 in
    omega (arith, l, o)) c.plan_by.ensures.plan

pub returns-clause-ranges : goal.returns-clause-ranges
returns-clause-ranges c = IfOk-weaker c.plan_by.result _ _ (λ g h. h.sendable.1) c.plan_by.ensures.plan
