use Rattle.std.proofs.Common.{ap, sym, ◌∙◌, subst, arith}
use Rattle.ov_ids.specs.Members.{Has}
use Rattle.ov_board.specs.Steps.{Fails}
use Rattle.ov_board.specs.Board.{SeatState}
use Rattle.ov_board.proofs.Exchanging as exchange
use Rattle.ov_board.proofs.claim_board.Board.fail.Goals as goal

pub fetch_min-requires : goal.fetch_min-requires
fetch_min-requires c =
    let same = ap (λ v. v.board) c.seat.view_is ∙ (c.requires.mine ∙ sym c.self.view_is) in
    let seat = exchange.at_board _ _ _ _ _ c.seat.invariant.0 same c.self.invariant.0 in
    let own = subst (λ (u : SeatState). Has u.worker.claimed c.args.index) (sym c.seat.view_is) c.requires.claimed in
    (ap (λ b. b.table) same, omega (arith, c.self.invariant.1), exchange.fail _ _ _ c.seat.inside.seat.me _ seat own)

pub returns-clause-step : goal.returns-clause-step
returns-clause-step c =
    let e = c.fetch_min.ensures in
    let old = c.seat.inside.seat.me.0 in
    let new = c.fetch_min.new.seat.me.0 in
    exchange.told (λ n s t. Fails s n c.args.index t) _ _ old new _ e.0 c.seat.view_is e.2.made
