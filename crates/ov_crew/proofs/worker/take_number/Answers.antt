-- A claim and a look, one after the other.
use Rattle.std.proofs.Common.{◌≡◌, ◌<◌, sym, ap, ◌∙◌, subst, arith}
use Rattle.ov_ids.specs.Members.{Has}
use Rattle.ov_board.specs.Steps.{looking, claiming}
use Rattle.ov_board.specs.Board.{SeatState}
use Rattle.ov_board.proofs.Later.{later}
use Rattle.ov_crew.specs.Code.Turns.{HasTaken, HasStopped}
use Rattle.ov_crew.proofs.Taking.{has_claimed, takes, skips}
use Rattle.ov_crew.proofs.worker.take_number.Goals as goal

pub look-least-requires-clause-claimed : goal.look-least-requires-clause-claimed
look-least-requires-clause-claimed g c =
    let x = c.claim-number.result.0 in
    let low : x < c.args.board.now.total = omega (arith, c.if-number-total.false, c.total.ensures) in
    subst (λ (s : SeatState). Has s.worker.claimed x) (sym c.claim-number.ensures.seat)
    (has_claimed c.args.board.now.total x c.args.seat.worker low)

pub returns-then-least-number-clause-stopped : goal.returns-then-least-number-clause-stopped
returns-then-least-number-clause-stopped g c =
    let x = c.claim-number.result.0 in
    let total = c.args.board.now.total in
    let low : x < total = omega (arith, c.if-number-total.false, c.total.ensures) in
    let is : c.look-least.result.1.worker ≡ looking c.look-least.result.0 x (claiming total x c.args.seat.worker) =
    ap (λ (s : SeatState). s.worker) c.look-least.ensures.seat
    ∙ ap (λ (s : SeatState). looking c.look-least.result.0 x s.worker) c.claim-number.ensures.seat in
    subst (HasStopped c.args.seat.worker) (sym is) (skips total c.look-least.result.0 x c.args.seat.worker low
    c.if-least-number.true (later c.args.seat c.claim-number.result.1 x c.claim-number.ensures.step))

pub returns-clause-taken : goal.returns-clause-taken
returns-clause-taken g c =
    let x = c.claim-number.result.0 in
    let total = c.args.board.now.total in
    let low : x < total = omega (arith, c.if-number-total.false, c.total.ensures) in
    let is : c.look-least.result.1.worker ≡ looking c.look-least.result.0 x (claiming total x c.args.seat.worker) =
    ap (λ (s : SeatState). s.worker) c.look-least.ensures.seat
    ∙ ap (λ (s : SeatState). looking c.look-least.result.0 x s.worker) c.claim-number.ensures.seat in
    subst (HasTaken total x c.args.seat.worker) (sym is) (takes total c.look-least.result.0 x c.args.seat.worker low
    c.if-least-number.false (later c.args.seat c.claim-number.result.1 x c.claim-number.ensures.step))
