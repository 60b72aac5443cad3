-- A worker whose next turn is a look has a number in hand, which it claimed last.
use Rattle.std.proofs.Common.{◌≡◌, ◌∙◌, ◌<◌, ℕ, refl, sym, ap, subst, set}
use Rattle.std.proofs.lemmas.Option.{slice_get_within}
use Rattle.ov_even.proofs.DeskTurns.Keeping.{in_hand, may_look, look_held, look_made, keeping, keeps, keeps_none}
use Rattle.ov_even.proofs.group_desk.GroupDesk.look.Goals as goal
use Rattle.ov_even.proofs.group_desk.GroupDesk.look.Goals.{then-least-number, else-least-number}

pub look-least-requires : goal.look-least-requires
look-least-requires c =
    let at =
    in_hand _ _ c.args.worker _ c.index.result.now _ c.self.view_is c.requires.1 c.index.ensures c.in-Claimed.is in
    record { goes_on = may_look _ c.args.worker _ c.self.invariant at }

pub index_mut-requires : goal.index_mut-requires
index_mut-requires c =
    let hands = c.self.inside.hands in
    let at =
    in_hand _ _ c.args.worker _ c.index.result.now _ c.self.view_is c.requires.1 c.index.ensures c.in-Claimed.is in
    subst (λ (n : ℕ). c.args.worker < n) (sym hands.ok.0) (slice_get_within hands.items c.args.worker _ at)

pub invariant_of-self : goal.invariant_of-self
invariant_of-self c =
    let at =
    in_hand _ _ c.args.worker _ c.index.result.now _ c.self.view_is c.requires.1 c.index.ensures c.in-Claimed.is in
    let x = c.in-Claimed.number in
    let least = c.look-least.result in
    let hand : c.if-least-number.hand ≡ keeping least x = elim c.if-least-number.branch [
      | then-least-number w ↦ w.hand-is ∙ keeps_none least x w.if-least-number.true
      | else-least-number w ↦ w.hand-is ∙ keeps least x w.if-least-number.false
    ] in
    look_held _ _ c.args.worker x c.self.invariant at c.look-least.ensures.looks
    (ap (set c.self.inside.hands.items c.args.worker)
    (hand ∙ ap (λ (n : ℕ). keeping n x) c.look-least.ensures.least)) refl

pub returns : goal.returns
returns c =
    let at =
    in_hand _ _ c.args.worker _ c.index.result.now _ c.self.view_is c.requires.1 c.index.ensures c.in-Claimed.is in
    let x = c.in-Claimed.number in
    let least = c.look-least.result in
    let hand : c.if-least-number.hand ≡ keeping least x = elim c.if-least-number.branch [
      | then-least-number w ↦ w.hand-is ∙ keeps_none least x w.if-least-number.true
      | else-least-number w ↦ w.hand-is ∙ keeps least x w.if-least-number.false
    ] in
    look_made _ _ c.args.worker x least _ _ c.self.invariant c.self.view_is at c.look-least.ensures.looks
    c.look-least.ensures.least hand
