use Rattle.std.proofs.Common.{◌≡◌, ◌<◌, ◌+◌, ◌-◌, ◌++◌, List, [], ◌∙◌, suc, sym, ap, subst, append_assoc}
use Rattle.std.proofs.Common.{append-nil, arith}
use Rattle.ov_ids.specs.declared.id.MsgId.{MsgId}
use Rattle.ov_grow.specs.Broadcasts.{OneByOne}
use Rattle.ov_grow.specs.Code.Standing.{Goes, IsNoWay, growth_of}
use Rattle.ov_grow.proofs.Going.{goes_still, passes_on}
use Rattle.ov_grow.proofs.Broadcasting.{no_more}
use Rattle.ov_grow.proofs.Making.{at_once_made, room_begins, room_less, room_next, somebody_lives_on}
use Rattle.ov_grow.proofs.NoBroadcast.{left_one, no_way_one}
use Rattle.ov_grow.proofs.Ways.{one_goes}
use Rattle.ov_grow.proofs.growth_in_progress.Growing.one_by_one.Goals as goal

pub loop-broadcast-init : goal.loop-broadcast-init
loop-broadcast-init c =
    let b = c.args.self.now in
    let n = c.args.count in
    let r = c.args.rules.now in
    let all : n - 0 ≡ n = omega arith in (
      (λ rest u more. subst (λ ids. Goes (λ s v. OneByOne r n s (ids ++ rest) v) b u)
          (sym c.in_ok-messages.ensures.items)
          (subst (λ k. Goes (λ s v. OneByOne r k s rest v) b u) all more)),
      (λ ids u made. (ids, subst (λ k. OneByOne r k (growth_of b) ids u) (sym all) made)),
      c.requires.live,
      room_begins n (growth_of b) c.requires.made,
    )

pub returns-in_err-one-clause-refused : goal.returns-in_err-one-clause-refused
returns-in_err-one-clause-refused c =
    let n = c.args.count - c.loop-broadcast._broadcast in
    let m = c.args.count - (c.loop-broadcast._broadcast + 1) in
    let one : n ≡ suc m = omega arith in
    let fault = c.in_err-one.field-0.0 in
    passes_on (IsNoWay (λ s u. (ids : List MsgId) × OneByOne c.args.rules.now c.args.count s ids u) c.args.self.now)
    c.from_residual-in_err-one.result fault c.from_residual-in_err-one.ensures.1
    (no_way_one c.args.rules.now c.args.count n m c.args.self.now c.loop-broadcast.self fault
    c.loop-broadcast.invariant.1 one c.in_err-one.ensures.refused)

pub loop-broadcast-preserved : goal.loop-broadcast-preserved
loop-broadcast-preserved c =
    let r = c.args.rules.now in
    let n = c.args.count - c.loop-broadcast._broadcast in
    let m = c.args.count - (c.loop-broadcast._broadcast + 1) in
    let first = c.in_ok-one.one.items in
    let s = growth_of c.loop-broadcast.self in
    let t = growth_of c.at_once.new.self in
    let made = at_once_made r 1 s t first c.in_ok-one.ensures.goes.way in
    let one : n ≡ suc m = omega arith in (
      (λ rest u more.
          subst (λ xs. Goes (λ s v. OneByOne r c.args.count s xs v) c.args.self.now u)
          (sym (ap (λ m. m ++ rest) (c.in_ok-extend_from_slice.ensures.items
          ∙ ap (λ xs. c.loop-broadcast.messages.items ++ xs) c.deref.ensures.value)
          ∙ append_assoc c.loop-broadcast.messages.items first rest))
          (c.loop-broadcast.invariant.0 (first ++ rest) u
          (one_goes r n m first rest c.loop-broadcast.self c.at_once.new.self u one c.in_ok-one.ensures.goes more))),
      left_one r c.args.count n m first c.args.self.now c.loop-broadcast.self c.at_once.new.self
          c.loop-broadcast.invariant.1 one c.in_ok-one.ensures.goes,
      somebody_lives_on 1 s t made c.loop-broadcast.invariant.2,
      room_less c.args.count c.loop-broadcast._broadcast s t made c.loop-broadcast.invariant.3,
    )

pub returns-clause-goes : goal.returns-clause-goes
returns-clause-goes c =
    let none : c.args.count - c.loop-broadcast._broadcast ≡ 0 = omega arith in
    subst (λ xs. Goes (λ s v. OneByOne c.args.rules.now c.args.count s xs v) c.args.self.now c.loop-broadcast.self)
    (append-nil c.loop-broadcast.messages.items)
    (c.loop-broadcast.invariant.0 [] c.loop-broadcast.self
    (goes_still _ _ (no_more c.args.rules.now _ (growth_of c.loop-broadcast.self) none)))

pub at_once-requires-clause-made : goal.at_once-requires-clause-made
at_once-requires-clause-made c =
    let less : c.loop-broadcast._broadcast < c.args.count = omega arith in
    room_next c.args.count c.loop-broadcast._broadcast (growth_of c.loop-broadcast.self) less
    c.loop-broadcast.invariant.3
