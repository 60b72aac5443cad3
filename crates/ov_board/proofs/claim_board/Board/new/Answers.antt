use Rattle.std.proofs.Common.{◌≡◌, length, List, [], ◌∷◌, take, drop, slice_get}
use Rattle.std.proofs.Common.{ap, sym, ◌∙◌, arith, length-append}
use Rattle.ov_board.specs.Claims.{fresh}
use Rattle.ov_board.specs.Rule.{Numbered}
use Rattle.ov_board.specs.declared.ghost_views.SeatView.{SeatView}
use Rattle.ov_board.specs.Board.{BoardState, SeatState, new_seat}
use Rattle.ov_board.specs.Code.Rule.{Holder, head_of, others_of, first_of, seat_state}
use Rattle.ov_board.proofs.Sharing.{splits}
use Rattle.ov_board.proofs.Closing.{opens, fresh_next, pushed}
use Rattle.ov_board.proofs.claim_board.Board.new.Goals as goal

pub of_words-requires : goal.of_words-requires
of_words-requires c = opens _ c.requires c.count-count.ensures.may_work

pub split_seat-seat-requires : goal.split_seat-seat-requires
split_seat-seat-requires c =
    let t = c.in_ok-table.ensures in (c.loop-number.invariant.2, omega (arith, t.0), splits _ _ _)

pub invariant_of-push_reserved : goal.invariant_of-push_reserved
invariant_of-push_reserved c =
    let i = c.loop-number.invariant in
    let e = c.split_seat-seat.ensures in
    let next = fresh_next c.loop-number.number c.count-count.result c.loop-number-test.true in
    let is : c.split_seat-seat.result.me.0.seated ≡ (c.loop-number.number, fresh) ∷ [] =
    ap (λ (m : Holder). m.0.seated) e.4 ∙ (ap (λ (m : Holder). take 1 m.0.seated) i.3 ∙ ap (take 1) next) in (
      is ∙ sym (ap (λ (qs : List Numbered). head_of qs ∷ []) is),
      sym (ap (λ (qs : List Numbered). (head_of qs).0) is),
      ap (λ (m : Holder). m.1) e.4,
    )

pub loop-number-preserved : goal.loop-number-preserved
loop-number-preserved c =
    let i = c.loop-number.invariant in
    let e = c.split_seat-seat.ensures in
    let p = c.push_reserved.ensures in
    let n = c.loop-number.number in
    let next = fresh_next n c.count-count.result c.loop-number-test.true in
    let plan : List Numbered → SeatView = λ qs. record {
      total = c.args.total;
      workers = c.count-count.result;
      seated = qs;
    } in
    let first : c.split_seat-seat.result.me.0 ≡ plan ((n, fresh) ∷ []) =
    ap (λ (m : Holder). m.0) e.4 ∙ (ap (λ (m : Holder). first_of m.0) i.3 ∙ ap (λ qs. plan (take 1 qs)) next) in
    let table = e.3 ∙ i.2 in
    let board : BoardState = record {
      table = c.in_ok-table.table.shared.table_id;
      total = c.args.total;
      workers = c.count-count.result;
    } in
    let seat : SeatState = seat_state c.split_seat-seat.result.table_id c.split_seat-seat.result.me.0 in
    let made : seat ≡ new_seat board n = λ k. seat_state (table k) (first k) in (
      omega (arith, ap length p.items, length-append c.loop-number.seats.items (seat ∷ []), i.0),
      omega (arith, i.1, p.capacity),
      e.0 ∙ i.2,
      e.2 ∙ (ap (λ (m : Holder). (others_of m.0, m.1)) i.3 ∙ ap (λ qs. (plan (drop 1 qs), [])) next),
      λ j low. ap (λ (xs : List SeatState). slice_get xs j) p.items
          ∙ pushed c.loop-number.seats.items n (new_seat board) seat i.0 i.4 made j low,
    )
