-- A worker whose next turn is to settle has the number of a piece in hand.
use Rattle.std.proofs.Common.{◌∙◌, ◌<◌, ℕ, refl, sym, ap, subst, length, ◌++◌, ◌∷◌, [], List}
use Rattle.ov_even.specs.declared.piece_in_hand.Hand.TheVariants.{Looked}
use Rattle.std.proofs.lemmas.List.{length-set}
use Rattle.std.proofs.lemmas.Option.{slice_get_within}
use Rattle.ov_fans.specs.declared.piece_result.Settled.{Settled}
use Rattle.ov_even.specs.Desk.{GroupDeskState, HasHand}
use Rattle.ov_even.specs.Code.KeptDesk.{IsKept, pieces_in}
use Rattle.ov_even.proofs.DeskTurns.Keeping.{in_hand, may_fail}
use Rattle.ov_even.proofs.DeskTurns.Settling.{number_shared, haul_within, haul_read, hauls_rest, hauls_more, same_desk}
use Rattle.ov_even.proofs.DeskTurns.Settling.{on_any_err, claims_failed, claims_stay, settle_held, settle_made}
use Rattle.ov_even.proofs.DeskTurns.Settling.{ClaimsSettled}
use Rattle.ov_even.proofs.group_desk.GroupDesk.settle.Goals as goal
use Rattle.ov_even.proofs.group_desk.GroupDesk.settle.Goals.{then-is_cut+in_ok-fail, else-is_cut}

pub settled_at-requires-clause-below : goal.settled_at-requires-clause-below
settled_at-requires-clause-below c =
    let at =
    in_hand _ _ c.args.worker _ c.index.result.now _ c.self.view_is c.requires.next.1 c.index.ensures c.in-Looked.is in
    let seen = subst (λ (s : GroupDeskState). HasHand s c.args.worker (Looked c.in-Looked.number)) c.self.view_is at in
    number_shared c.args.graph.now c.args.self.now c.args.worker c.in-Looked.number c.requires.sound seen

pub index_mut-own-requires : goal.index_mut-own-requires
index_mut-own-requires c =
    let hauls = c.self.inside.hauls in
    let at =
    in_hand _ _ c.args.worker _ c.index.result.now _ c.self.view_is c.requires.next.1 c.index.ensures c.in-Looked.is in
    subst (λ (n : ℕ). c.args.worker < n) (sym hauls.ok.0)
    (haul_within _ hauls.items c.args.worker _ c.self.invariant refl at)

pub returns-in_err-reserve-clause-err : goal.returns-in_err-reserve-clause-err
returns-in_err-reserve-clause-err c =
    let hauls = c.self.inside.hauls.items in
    on_any_err c.from_residual-in_err-reserve.result
    (same_desk _ _ _ refl (hauls_rest hauls c.args.worker c.index_mut-own.result.now _ c.index_mut-own.ensures.value
    c.reserve.ensures.items) ∙ c.self.view_is)

pub fail-requires : goal.fail-requires
fail-requires c =
    let at =
    in_hand _ _ c.args.worker _ c.index.result.now _ c.self.view_is c.requires.next.1 c.index.ensures c.in-Looked.is in
    record { claimed = may_fail _ c.args.worker _ c.self.invariant at }

pub invariant_of-self-in_err-fail : goal.invariant_of-self-in_err-fail
invariant_of-self-in_err-fail c =
    let hauls = c.self.inside.hauls.items in
    subst IsKept (sym (same_desk _ _ _ c.in_err-fail.ensures.err (hauls_rest hauls c.args.worker
    c.index_mut-own.result.now _ c.index_mut-own.ensures.value c.reserve.ensures.items))) c.self.invariant

pub returns-in_err-fail-clause-err : goal.returns-in_err-fail-clause-err
returns-in_err-fail-clause-err c =
    let hauls = c.self.inside.hauls.items in
    on_any_err c.from_residual-in_err-fail.result
    (same_desk _ _ _ c.in_err-fail.ensures.err (hauls_rest hauls c.args.worker c.index_mut-own.result.now _
    c.index_mut-own.ensures.value c.reserve.ensures.items) ∙ c.self.view_is)

pub index_mut-requires : goal.index_mut-requires
index_mut-requires c =
    let hands = c.self.inside.hands in
    let at =
    in_hand _ _ c.args.worker _ c.index.result.now _ c.self.view_is c.requires.next.1 c.index.ensures c.in-Looked.is in
    subst (λ (n : ℕ). c.args.worker < n) (sym hands.ok.0) (slice_get_within hands.items c.args.worker _ at)

pub invariant_of-self-2 : goal.invariant_of-self-2
invariant_of-self-2 c =
    let w = c.args.worker in
    let s = c.self.inside.claims in
    let x = c.in-Looked.number in
    let found = c.in_ok-settled.settled.found in
    let hauls = c.self.inside.hauls.items in
    let own = c.index_mut-own.result.now in
    let more = c.push_reserved.ensures.items
    ∙ ap (λ (pieces : List Settled). pieces ++ c.in_ok-settled.settled ∷ []) c.reserve.ensures.items in
    let at = in_hand _ _ w _ c.index.result.now _ c.self.view_is c.requires.next.1 c.index.ensures c.in-Looked.is in
    let claims : ClaimsSettled s w x found c.if-is_cut.self-inside.1.1.1.0 = elim c.if-is_cut.branch [
      | then-is_cut+in_ok-fail k ↦ subst (ClaimsSettled s w x found) (λ i. (sym k.self-inside-is i).1.1.1.0)
          (claims_failed _ w x found _ c.self.invariant at (c.is_cut.ensures.0 k.if-is_cut.true)
          k.in_ok-fail.ensures.fails)
      | else-is_cut k ↦ subst (ClaimsSettled s w x found) (λ i. (sym k.self-inside-is i).1.1.1.0)
          (claims_stay s w x found c.is_cut.result c.is_cut.ensures k.if-is_cut.false)
    ] in
    settle_held _ _ w x found c.self.invariant at claims refl
    (ap length (hauls_more hauls w own _ c.in_ok-settled.settled more) ∙ length-set (pieces_in hauls) w _)

pub returns-clause-settled : goal.returns-clause-settled
returns-clause-settled c =
    let w = c.args.worker in
    let s = c.self.inside.claims in
    let x = c.in-Looked.number in
    let piece = c.in_ok-settled.settled in
    let found = c.in_ok-settled.settled.found in
    let hauls = c.self.inside.hauls.items in
    let own = c.index_mut-own.result.now in
    let more = c.push_reserved.ensures.items
    ∙ ap (λ (pieces : List Settled). pieces ++ piece ∷ []) c.reserve.ensures.items in
    let at = in_hand _ _ w _ c.index.result.now _ c.self.view_is c.requires.next.1 c.index.ensures c.in-Looked.is in
    let claims : ClaimsSettled s w x found c.if-is_cut.self-inside.1.1.1.0 = elim c.if-is_cut.branch [
      | then-is_cut+in_ok-fail k ↦ subst (ClaimsSettled s w x found) (λ i. (sym k.self-inside-is i).1.1.1.0)
          (claims_failed _ w x found _ c.self.invariant at (c.is_cut.ensures.0 k.if-is_cut.true)
          k.in_ok-fail.ensures.fails)
      | else-is_cut k ↦ subst (ClaimsSettled s w x found) (λ i. (sym k.self-inside-is i).1.1.1.0)
          (claims_stay s w x found c.is_cut.result c.is_cut.ensures k.if-is_cut.false)
    ] in
    let had = haul_read hauls w own (haul_within _ hauls w _ c.self.invariant refl at) c.index_mut-own.ensures.value in
    settle_made c.args.graph.now _ _ w x _ piece own.pieces.items _ c.self.view_is at record {
      numbered = c.in_ok-settled.ensures.numbered;
      right = c.in_ok-settled.ensures.right;
    } claims had (hauls_more hauls w own _ piece more)
