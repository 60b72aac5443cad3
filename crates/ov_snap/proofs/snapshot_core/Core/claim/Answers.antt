use Rattle.ov_snap.specs.Code.Kept.{core_of}
use Rattle.ov_snap.proofs.DeskCalls.{claimed}
use Rattle.ov_snap.proofs.snapshot_core.Core.claim.Goals as goal

pub invariant_of-self-2 : goal.invariant_of-self-2
invariant_of-self-2 c =
    let may = c.in_ok-judge_claim.ensures in
    (claimed (core_of c.self.inside) c.args.self.now c.args.desk c.args.worker c.in_ok-claim.field-0
    c.index_mut-own.result.now c.claim.new.self c.self.view_is c.self.invariant may.ok may.next
    c.index_mut-own.ensures.value c.in_ok-claim.ensures.claimed).1

pub returns-clause-claimed : goal.returns-clause-claimed
returns-clause-claimed c =
    let may = c.in_ok-judge_claim.ensures in
    (claimed (core_of c.self.inside) c.args.self.now c.args.desk c.args.worker c.in_ok-claim.field-0
    c.index_mut-own.result.now c.claim.new.self c.self.view_is c.self.invariant may.ok may.next
    c.index_mut-own.ensures.value c.in_ok-claim.ensures.claimed).0
