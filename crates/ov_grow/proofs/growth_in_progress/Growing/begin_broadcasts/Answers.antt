use Rattle.std.proofs.Common.{◌≡◌, ◌<◌, ◌+◌, ◌-◌, ◌++◌, ◌∷◌, List, [], ◌∙◌, suc, sym, ap, subst, append_assoc}
use Rattle.std.proofs.Common.{append-nil, arith}
use Rattle.ov_ids.specs.declared.id.MsgId.{MsgId}
use Rattle.ov_peer.specs.PeerState.{PeerState}
use Rattle.ov_net.specs.Net.{LivesAs}
use Rattle.ov_grow.specs.Broadcasts.{BroadcastsBegin}
use Rattle.ov_grow.specs.Code.Standing.{Goes, IsNoWay, growth_of}
use Rattle.ov_grow.proofs.Going.{goes_still, passes_on}
use Rattle.ov_grow.proofs.Broadcasting.{begins_end, sender_same}
use Rattle.ov_grow.proofs.Keeping.{keeps_same}
use Rattle.ov_grow.proofs.Making.{broadcast_lives, may_make_keeps, room_begins, room_more, room_next}
use Rattle.ov_grow.proofs.NoBroadcast.{left_next, no_way_next}
use Rattle.ov_grow.proofs.Ways.{begin_goes}
use Rattle.ov_grow.proofs.growth_in_progress.Growing.begin_broadcasts.Goals as goal

pub loop-broadcast-init : goal.loop-broadcast-init
loop-broadcast-init c =
    let b = c.args.self.now in
    let xs = c.args.nodes.now in
    let o = c.args.sender in
    let n = c.args.count in
    let all : n - 0 ≡ n = omega arith in (
      (λ rest u more. subst (λ ids. Goes (λ s v. BroadcastsBegin o xs n s (ids ++ rest) v) b u)
          (sym c.in_ok-messages.ensures.items)
          (subst (λ k. Goes (λ s v. BroadcastsBegin o xs k s rest v) b u) all more)),
      (λ ids u begin. (ids, subst (λ k. BroadcastsBegin o xs k (growth_of b) ids u) (sym all) begin)),
      c.requires.live,
      room_begins n (growth_of b) c.requires.made,
    )

pub returns-in_err-broadcast-clause-refused : goal.returns-in_err-broadcast-clause-refused
returns-in_err-broadcast-clause-refused c =
    let n = c.args.count - c.loop-broadcast._broadcast in
    let m = c.args.count - (c.loop-broadcast._broadcast + 1) in
    let one : n ≡ suc m = omega arith in
    let fault = c.in_err-broadcast.field-0.0 in
    passes_on (IsNoWay (λ s u. (ids : List MsgId)
    × BroadcastsBegin c.args.sender c.args.nodes.now c.args.count s ids u)
    c.args.self.now) c.from_residual-in_err-broadcast.result fault c.from_residual-in_err-broadcast.ensures.1
    (no_way_next c.args.sender c.args.nodes.now c.args.count n m c.next_sender-node.result c.args.self.now
    c.loop-broadcast.self c.next_sender-node.new.self fault c.loop-broadcast.invariant.1 one
    c.next_sender-node.ensures.goes c.in_err-broadcast.ensures.refused)

pub loop-broadcast-preserved : goal.loop-broadcast-preserved
loop-broadcast-preserved c =
    let n = c.args.count - c.loop-broadcast._broadcast in
    let m = c.args.count - (c.loop-broadcast._broadcast + 1) in
    let id = c.in_ok-broadcast.field-0 in
    let t = c.next_sender-node.new.self in
    let same = sender_same c.args.sender c.args.nodes.now c.next_sender-node.result (growth_of c.loop-broadcast.self)
    (growth_of t) c.next_sender-node.ensures.goes.way in
    let one : n ≡ suc m = omega arith in (
      (λ rest u more.
          subst (λ xs. Goes (λ s v. BroadcastsBegin c.args.sender c.args.nodes.now c.args.count s xs v)
          c.args.self.now u)
          (sym (ap (λ m. m ++ rest) c.in_ok-push.ensures.items
          ∙ append_assoc c.loop-broadcast.messages.items (id ∷ []) rest))
          (c.loop-broadcast.invariant.0 (id ∷ rest) u
          (begin_goes c.args.sender c.args.nodes.now n m c.next_sender-node.result id rest c.loop-broadcast.self t
          c.broadcast.new.self u one c.next_sender-node.ensures.goes c.in_ok-broadcast.ensures.goes more))),
      left_next c.args.sender c.args.nodes.now c.args.count n m c.next_sender-node.result id
          c.args.self.now c.loop-broadcast.self t c.broadcast.new.self c.loop-broadcast.invariant.1 one
          c.next_sender-node.ensures.goes c.in_ok-broadcast.ensures.goes,
      broadcast_lives c.args.nodes.now _ (growth_of c.loop-broadcast.self) (growth_of t) (growth_of
          c.broadcast.new.self) id same c.in_ok-broadcast.ensures.goes.way c.loop-broadcast.invariant.2,
      room_more c.args.count c.loop-broadcast._broadcast _ (growth_of c.loop-broadcast.self) (growth_of t)
          (growth_of c.broadcast.new.self) id same c.in_ok-broadcast.ensures.goes.way c.loop-broadcast.invariant.3,
    )

pub returns-clause-goes : goal.returns-clause-goes
returns-clause-goes c =
    let none : c.args.count - c.loop-broadcast._broadcast ≡ 0 = omega arith in
    subst (λ xs. Goes (λ s v. BroadcastsBegin c.args.sender c.args.nodes.now c.args.count s xs v) c.args.self.now
    c.loop-broadcast.self)
    (append-nil c.loop-broadcast.messages.items)
    (c.loop-broadcast.invariant.0 [] c.loop-broadcast.self
    (goes_still _ _ (begins_end c.args.sender c.args.nodes.now _ (growth_of c.loop-broadcast.self) none)))

pub broadcast-requires-clause-live : goal.broadcast-requires-clause-live
broadcast-requires-clause-live c =
    let node = c.next_sender-node.result in
    let same = sender_same c.args.sender c.args.nodes.now node (growth_of c.loop-broadcast.self)
    (growth_of c.next_sender-node.new.self) c.next_sender-node.ensures.goes.way in
    subst (λ w. (p : PeerState) × LivesAs w.net node p) (sym same)
    (c.loop-broadcast.invariant.2 node c.next_sender-node.ensures.among)

pub broadcast-requires-clause-made : goal.broadcast-requires-clause-made
broadcast-requires-clause-made c =
    let s = growth_of c.loop-broadcast.self in
    let t = growth_of c.next_sender-node.new.self in
    let same = sender_same c.args.sender c.args.nodes.now c.next_sender-node.result s t
    c.next_sender-node.ensures.goes.way in
    let less : c.loop-broadcast._broadcast < c.args.count = omega arith in
    may_make_keeps 1 s t (keeps_same s t same)
    (room_next c.args.count c.loop-broadcast._broadcast s less c.loop-broadcast.invariant.3)
