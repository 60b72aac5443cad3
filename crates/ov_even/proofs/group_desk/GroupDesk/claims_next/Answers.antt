use Rattle.std.proofs.Common.{false, refl}
use Rattle.std.proofs.lemmas.Bool.{both_ways}
use Rattle.ov_even.proofs.DeskTurns.Settling.{read_hand, claims_unless_ended, claims_not_full}
use Rattle.ov_even.proofs.group_desk.GroupDesk.claims_next.Goals as goal

pub returns-in-Nothing : goal.returns-in-Nothing
returns-in-Nothing c =
    let w = c.args.worker in
    let at =
    read_hand _ _ w c.index.result.now _ c.self.view_is c.self.invariant c.requires c.index.ensures c.in-Nothing.is in
    claims_unless_ended _ _ w c.has_ended.result c.self.view_is c.requires at c.has_ended.ensures

pub returns-in-Claimed : goal.returns-in-Claimed
returns-in-Claimed c =
    let w = c.args.worker in
    let hand = c.index.result.now in
    let at = read_hand _ _ w hand hand c.self.view_is c.self.invariant c.requires c.index.ensures refl in
    let none = claims_not_full c.args.self.now w hand at c.in-Claimed.is in
    ((λ t. absurd (both_ways false refl t)), (λ next. absurd (none next)))
