use Rattle.ov_ids.specs.declared.id.MsgId.{MsgId}
use Rattle.ov_grow.specs.Broadcasts.{BroadcastBy}
use Rattle.ov_grow.specs.Code.Standing.{IsNoWay}
use Rattle.ov_grow.proofs.Going.{goes_as, passes_on}
use Rattle.ov_grow.proofs.Broadcasting.{broadcast_by}
use Rattle.ov_grow.proofs.NoBroadcast.{no_way_broadcast}
use Rattle.ov_grow.specs.Faults.{IsFull}
use Rattle.ov_grow.proofs.Full.{broadcast_full}
use Rattle.ov_grow.proofs.growth_in_progress.Growing.broadcast.Goals as goal

pub returns-in_err-act-clause-refused : goal.returns-in_err-act-clause-refused
returns-in_err-act-clause-refused c =
    let fault = c.in_err-act.field-0.0 in
    passes_on (IsNoWay (λ s u. (id : MsgId) × BroadcastBy c.args.node s id u) c.args.self.now) c.from_residual.result
    fault c.from_residual.ensures.1
    (no_way_broadcast c.args.node c.args.self.now fault c.in_err-act.ensures.refused)

pub returns-clause-goes : goal.returns-clause-goes
returns-clause-goes c =
    goes_as _ _ _ _ (λ did. broadcast_by _ _ _ _ c.made_by-seq.ensures did) c.in_ok-act.ensures.goes

pub returns-in_err-act-clause-full : goal.returns-in_err-act-clause-full
returns-in_err-act-clause-full c =
    let fault = c.in_err-act.field-0.0 in
    passes_on IsFull c.from_residual.result fault c.from_residual.ensures.1
    (broadcast_full c.args.self.now c.args.node fault c.requires.live c.requires.made c.in_err-act.ensures.judged)
