use Rattle.std.proofs.Common.{◌≡◌, ℕ, ap, sym, ◌∙◌, subst, arith}
use Rattle.ov_ids.specs.Members.{Has}
use Rattle.ov_board.specs.Steps.{Looks}
use Rattle.ov_board.specs.Board.{SeatState}
use Rattle.ov_board.specs.Code.Rule.{worker_of}
use Rattle.ov_board.proofs.Exchanging as exchange
use Rattle.ov_board.proofs.claim_board.Board.look_as.Goals as goal

pub load-least-requires : goal.load-least-requires
load-least-requires g c =
    let same = ap (λ v. v.board) c.seat.view_is ∙ (c.requires.mine ∙ sym c.self.view_is) in
    let seat = exchange.at_board _ _ _ _ _ c.seat.invariant.0 same c.self.invariant.0 in
    let on = ap (λ v. v.worker.ended) c.seat.view_is ∙ c.requires.goes_on in
    let old = worker_of c.seat.inside.seat.me.0 in
    let had : Has old.claimed c.args.index =
    subst (λ (u : SeatState). Has u.worker.claimed c.args.index) (sym c.seat.view_is) c.requires.claimed in
    let own = subst (λ (i : ℕ). Has old.claimed i) c.requires.index had in
    (ap (λ b. b.table) same, omega (arith, c.self.invariant.1), exchange.look _ _ _ c.seat.inside.seat.me _ seat on own)

pub returns-clause-step : goal.returns-clause-step
returns-clause-step g c =
    let e = c.load-least.ensures in
    let old = c.seat.inside.seat.me.0 in
    let new = c.load-least.new.seat.me.0 in
    let n = c.load-least.result in
    rw c.requires.index
    (exchange.told (λ m s t. Looks s m g.I.Number.number t × (n ≡ s.least)) _ _ old new _ e.0 c.seat.view_is e.2.made)
