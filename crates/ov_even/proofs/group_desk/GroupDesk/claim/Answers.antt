use Rattle.std.proofs.Common.{refl, ap, set}
use Rattle.ov_even.proofs.DeskTurns.Keeping.{claim_held, claim_made, takes, still_empty}
use Rattle.ov_even.proofs.group_desk.GroupDesk.claim.Goals as goal

pub invariant_of-self-then-number-total : goal.invariant_of-self-then-number-total
invariant_of-self-then-number-total c =
    let step = c.in_ok-number.ensures.claims in
    claim_held _ _ c.args.worker c.in_ok-number.number c.self.invariant step
    (ap (set c.self.inside.hands.items c.args.worker)
    (takes _ _ c.args.worker c.in_ok-number.number c.total.result step c.total.ensures.number c.if-number-total.true))
    refl

pub invariant_of-self-else-number-total : goal.invariant_of-self-else-number-total
invariant_of-self-else-number-total c =
    let step = c.in_ok-number.ensures.claims in
    claim_held _ _ c.args.worker c.in_ok-number.number c.self.invariant step
    (still_empty _ _ c.args.worker c.in_ok-number.number c.total.result _ c.self.view_is c.requires step
    c.total.ensures.number c.if-number-total.false) refl

pub returns-else-number-total-clause-claimed : goal.returns-else-number-total-clause-claimed
returns-else-number-total-clause-claimed c =
    let step = c.in_ok-number.ensures.claims in
    claim_made _ _ c.args.worker c.in_ok-number.number _ _ c.self.view_is c.requires step
    (still_empty _ _ c.args.worker c.in_ok-number.number c.total.result _ c.self.view_is c.requires step
    c.total.ensures.number c.if-number-total.false)
