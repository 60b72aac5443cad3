-- The worker takes one number more and settles its piece, or has stopped.
use Rattle.std.proofs.Common.{◌+◌, ℕ, List, [], ◌∷◌, length, Option, refl, sym, ap, ◌∙◌}
use Rattle.std.proofs.Common.{subst, inl, arith}
use Rattle.std.specs.Prelude.{IfNone}
use Rattle.ov_ids.specs.Members.{Has}
use Rattle.ov_ids.proofs.Members.{has_append_right}
use Rattle.ov_fans.specs.Group.{SettlerState}
use Rattle.ov_fans.specs.Pieces.{IsPiece}
use Rattle.ov_board.specs.Claims.{WorkerState, fresh}
use Rattle.ov_even.specs.Order.{AreMoreThan, IsNumbered}
use Rattle.ov_even.proofs.AnalysisSteps.Narrowing.{members_few}
use Rattle.ov_even.proofs.PieceNumbers.Numbering.{numbered_piece}
use Rattle.ov_crew.specs.Code.Ascending.{GroupSizes}
use Rattle.ov_crew.specs.Code.Kept.{IsHaulKeeping}
use Rattle.ov_crew.specs.Code.Turns.{HasStopped, HasSettledKeeping}
use Rattle.ov_crew.proofs.Keeping.{HasTurned, fresh_keeping, stopped_keeping, turned_keeping}
use Rattle.ov_crew.proofs.Taking.{fewer_left, taken_here, settled_here}
use Rattle.ov_crew.proofs.worker.work_range_keeping.Goals.{In_default-done}
use Rattle.ov_crew.proofs.worker.work_range_keeping.Goals as goal

-- the worker's turn: it took the number of a piece and settled that
turned : (g : _) (c : In_default-done g) → HasTurned c.args.keeping c.args.graph.now c.args.group.now c.args.first
    c.in-Some.number c.loop-number.seat.worker c.settle_piece-done.result.1.worker
    c.settle_piece-done.new.pieces.items
turned g c =
    let graph = c.args.graph.now in
    let group = c.args.group.now in
    let total = c.args.board.now.total in
    let x = c.in-Some.number in
    let w = c.loop-number.seat.worker in
    let u = c.take_number-next.result.1.worker in
    let v = c.settle_piece-done.result.1.worker in
    let piece = c.piece_at-piece.result in
    let before = c.loop-number.pieces.items in
    let after = c.settle_piece-done.new.pieces.items in
    let s = c.loop-number.settler in
    let i = c.loop-number.invariant in
    let own : SettlerState = record { graph = graph; members = group } in
    let turn : HasSettledKeeping c.args.keeping s.graph s.members piece x u v before after = settled_here
    (HasSettledKeeping c.args.keeping s.graph s.members piece x u v before after) c.settle_piece-done.result.0
    c.in_default-done.is c.settle_piece-done.ensures.settled in
    let here : HasSettledKeeping c.args.keeping graph group piece x u v before after =
    subst (λ (t : SettlerState). HasSettledKeeping c.args.keeping t.graph t.members piece x u v before after)
    {y = own} i.settler turn in
    let numbered = subst (λ (s : GroupSizes). IsNumbered s.nodes s.members (c.args.first + x) piece) i.order
    c.piece_at-piece.ensures.numbered in
    turned_keeping c.args.keeping graph group c.args.first total x piece w u v before after c.nodes.ensures.graph i.haul
    i.none_skipped (taken_here total w u c.take_number-next.result.0 x c.in-Some.is c.take_number-next.ensures.taken)
    numbered here

pub loop-number-init : goal.loop-number-init
loop-number-init g c =
    let graph = c.args.graph.now in
    let group = c.args.group.now in
    let first = c.args.first in
    let keeping = c.args.keeping in
    let empty = subst (IsHaulKeeping keeping graph group first fresh) (sym c.new-pieces.ensures.items)
    (fresh_keeping keeping graph group first) in
    record {
      settler = c.in-Ok.ensures;
      order = c.new-order.ensures
          ∙ ap (λ (nodes : List ℕ). record { nodes = length nodes; members = length group }) c.nodes.ensures.nodes;
      board = refl;
      number = refl;
      goes_on = ap (λ (v : WorkerState). v.ended) c.requires.new;
      none_skipped = ap (λ (v : WorkerState). v.skipped) c.requires.new;
      haul = subst (λ (v : WorkerState). IsHaulKeeping keeping graph group first v c.new-pieces.result.items)
          (sym c.requires.new) empty;
    }

pub returns-in_default-clause-haul : goal.returns-in_default-clause-haul
returns-in_default-clause-haul g c =
    let i = c.loop-number.invariant in
    let w = c.loop-number.seat.worker in
    let v = c.take_number-next.result.1.worker in
    let stopped : HasStopped w v = subst (λ (o : Option ℕ). IfNone o (HasStopped w v)) c.in_default.is
    c.take_number-next.ensures.stopped in
    stopped_keeping c.args.keeping c.args.graph.now c.args.group.now c.args.first w v c.loop-number.pieces.items
    i.none_skipped stopped i.haul

pub new-order-requires-clause-members : goal.new-order-requires-clause-members
new-order-requires-clause-members g c =
    let few = members_few c.args.graph.now c.args.group.now c.requires.group in
    omega (arith, few, ap length c.nodes.ensures.nodes)

pub piece_at-piece-requires : goal.piece_at-piece-requires
piece_at-piece-requires g c =
    let x = c.args.first + c.in-Some.number in
    let t = taken_here c.args.board.now.total c.loop-number.seat.worker c.take_number-next.result.1.worker
    c.take_number-next.result.0 c.in-Some.number c.in-Some.is c.take_number-next.ensures.taken in
    subst (λ (s : GroupSizes). AreMoreThan s.nodes s.members x) (sym c.loop-number.invariant.order)
    (c.requires.range.below c.in-Some.number t.below)

pub settle_piece-done-requires-clause-piece : goal.settle_piece-done-requires-clause-piece
settle_piece-done-requires-clause-piece g c =
    let piece = c.piece_at-piece.result in
    let m = length c.args.group.now in
    let own : SettlerState = record { graph = c.args.graph.now; members = c.args.group.now } in
    let numbered = subst (λ (s : GroupSizes). IsNumbered s.nodes s.members (c.args.first + c.in-Some.number) piece)
    c.loop-number.invariant.order
    c.piece_at-piece.ensures.numbered in
    subst (λ (s : SettlerState). IsPiece s.graph s.members piece) {x = own} (sym c.loop-number.invariant.settler)
    (numbered_piece (length c.args.graph.now.nodes) m (c.args.first + c.in-Some.number) piece numbered)

pub settle_piece-done-requires-clause-claimed : goal.settle_piece-done-requires-clause-claimed
settle_piece-done-requires-clause-claimed g c =
    let x = c.in-Some.number in
    let w = c.loop-number.seat.worker in
    let t = taken_here c.args.board.now.total w c.take_number-next.result.1.worker c.take_number-next.result.0 x
    c.in-Some.is c.take_number-next.ensures.taken in
    subst (λ (v : WorkerState). Has v.claimed x) (sym t.became) (has_append_right w.claimed (x ∷ []) x (inl refl))

pub loop-number-smaller : goal.loop-number-smaller
loop-number-smaller g c =
    let w = c.loop-number.seat.worker in
    let u = c.take_number-next.result.1.worker in
    let t = taken_here c.args.board.now.total w u c.take_number-next.result.0 c.in-Some.number c.in-Some.is
    c.take_number-next.ensures.taken in
    fewer_left c.args.board.now.total c.in-Some.number w u c.settle_piece-done.result.1.worker.claimed t
    (turned g c).claimed

pub loop-number-preserved : goal.loop-number-preserved
loop-number-preserved g c =
    let t = turned g c in
    let i = c.loop-number.invariant in
    record {
      settler = c.settle_piece-done.ensures.stays ∙ i.settler;
      order = c.piece_at-piece.ensures.stays ∙ i.order;
      board = c.settle_piece-done.ensures.board ∙ (c.take_number-next.ensures.board ∙ i.board);
      number = c.settle_piece-done.ensures.number ∙ (c.take_number-next.ensures.number ∙ i.number);
      goes_on = t.ended ∙ i.goes_on;
      none_skipped = t.skipped ∙ i.none_skipped;
      haul = t.haul;
    }
