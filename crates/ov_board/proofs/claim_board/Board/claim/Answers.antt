use Rattle.std.proofs.Common.{ap, sym, ◌∙◌, arith}
use Rattle.ov_board.specs.Steps.{Claims}
use Rattle.ov_board.proofs.Exchanging as exchange
use Rattle.ov_board.proofs.claim_board.Board.claim.Goals as goal

pub fetch_add-index-requires : goal.fetch_add-index-requires
fetch_add-index-requires c =
    let same = ap (λ v. v.board) c.seat.view_is ∙ (c.requires.mine ∙ sym c.self.view_is) in
    let seat = exchange.at_board _ _ _ _ _ c.seat.invariant.0 same c.self.invariant.0 in
    let on = ap (λ v. v.worker.ended) c.seat.view_is ∙ c.requires.goes_on in
    (ap (λ b. b.table) same, omega (arith, c.self.invariant.1), exchange.claim _ _ _ c.seat.inside.seat.me seat on)

pub returns-clause-step : goal.returns-clause-step
returns-clause-step c =
    let e = c.fetch_add-index.ensures in
    let old = c.seat.inside.seat.me.0 in
    let new = c.fetch_add-index.new.seat.me.0 in
    exchange.told (λ n s t. Claims s n c.fetch_add-index.result t) _ _ old new _ e.0 c.seat.view_is e.2.made
