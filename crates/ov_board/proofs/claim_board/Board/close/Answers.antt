use Rattle.std.proofs.Common.{◌≡◌, List, [], ◌∷◌, ◌++◌, map, ap, sym, ◌∙◌, subst, inl, refl, arith}
use Rattle.std.proofs.Common.{append_assoc}
use Rattle.std.proofs.lemmas.List.{append-nil, map-append}
use Rattle.ov_ids.specs.Members.{Has}
use Rattle.ov_ids.proofs.Members.{has_append_right}
use Rattle.ov_board.specs.Board.{SeatState}
use Rattle.ov_board.specs.Code.Rule.{opening_view}
use Rattle.ov_board.proofs.Sharing.{enters, joins}
use Rattle.ov_board.proofs.Closing.{numbered, closes, all_has, nothing_left}
use Rattle.ov_board.proofs.claim_board.Board.close.Goals as goal

pub load_new_seat-all-requires : goal.load_new_seat-all-requires
load_new_seat-all-requires c =
    let key = c.self.inside.table.shared.key in (omega (arith, c.self.invariant.1), enters key _ (opening_view key))

pub loop-seat-init : goal.loop-seat-init
loop-seat-init c =
    let e = c.load_new_seat-all.ensures in
    (e.0, ap (λ v. v.seated) e.2.0, c.into_iter-seat-iterator.ensures.into_iter_gives.0)

pub join_seat-requires : goal.join_seat-requires
join_seat-requires c =
    let i = c.loop-seat.invariant in
    let rest = c.next.new.self.rest.items in
    let all : c.loop-seat.yielded ++ c.in-Some.seat ∷ rest ≡ c.args.seats.items =
    ap (λ (r : List SeatState). c.loop-seat.yielded ++ r) (sym c.in-Some.ensures.steps.0) ∙ i.2 in
    let mine = all_has (λ s. s.board ≡ c.args.self) c.args.seats.items c.in-Some.seat c.requires.mine
    (subst (λ (xs : List SeatState). Has xs c.in-Some.seat) all
    (has_append_right c.loop-seat.yielded (c.in-Some.seat ∷ rest) c.in-Some.seat (inl refl))) in
    let same = ap (λ v. v.board) c.seat.view_is ∙ (mine ∙ sym c.self.view_is) in
    (i.0, ap (λ b. b.table) same, c.seat.invariant.2, omega (arith, c.self.invariant.1), joins _ _ _ _ _)

pub loop-seat-preserved : goal.loop-seat-preserved
loop-seat-preserved c =
    let i = c.loop-seat.invariant in
    let j = c.join_seat.ensures in
    let was = c.loop-seat.yielded in
    let seat = c.in-Some.seat in
    let rest = c.next.new.self.rest.items in
    let all : was ++ seat ∷ rest ≡ c.args.seats.items =
    ap (λ (r : List SeatState). was ++ r) (sym c.in-Some.ensures.steps.0) ∙ i.2 in
    let one : c.seat.inside.seat.me.0.seated ≡ numbered seat ∷ [] =
    c.seat.invariant.0 ∙ ap (λ s. numbered s ∷ []) c.seat.view_is in
    let both : c.loop-seat.all.me.0.seated ++ c.seat.inside.seat.me.0.seated ≡ map numbered was ++ numbered seat ∷ [] =
    λ k. i.1 k ++ one k in (
      j.0 ∙ i.0,
      ap (λ m. m.0.seated) j.2 ∙ (both ∙ sym (map-append numbered was (seat ∷ []))),
      append_assoc was (seat ∷ []) rest ∙ all,
    )

pub close_with-closed-requires : goal.close_with-closed-requires
close_with-closed-requires c = c.loop-seat.invariant.0

pub returns : goal.returns
returns c =
    let i = c.loop-seat.invariant in
    let seats = c.args.seats.items in
    let rest = c.loop-seat.seat-iterator.rest in
    let gone : rest.items ≡ [] = nothing_left rest.items (omega (arith, c.in-None.ensures.steps.0, rest.ok.0)) in
    let was = c.loop-seat.yielded in
    let joined : was ≡ seats = sym (append-nil was) ∙ (ap (λ (r : List SeatState). was ++ r) (sym gone) ∙ i.2) in
    let workers = ap (λ b. b.workers) c.self.view_is in
    let done = closes c.self.inside.table.shared.key c.args.self _ c.loop-seat.all.me.0 _ _ c.word-least.result seats
    c.close_with-closed.ensures.values.2 c.word-least.ensures
    (sym c.self.invariant.0 ∙ ap (λ b. b.total) c.self.view_is) workers
    (i.1 ∙ ap (λ (xs : List SeatState). map numbered xs) joined) (c.requires.all ∙ sym workers) c.requires.ended in
    record { closed = done }
