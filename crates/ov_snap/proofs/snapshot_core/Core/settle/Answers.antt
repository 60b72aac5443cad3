use Rattle.ov_snap.specs.Code.Kept.{core_of}
use Rattle.ov_snap.proofs.DeskCalls.{may_settle, settled}
use Rattle.ov_snap.proofs.snapshot_core.Core.settle.Goals as goal

pub settle_at-requires-clause-kept : goal.settle_at-requires-clause-kept
settle_at-requires-clause-kept c =
    (may_settle (core_of c.self.inside) c.args.self.now c.deref.result.now c.args.desk c.args.worker
    c.index_mut-own.result.now c.self.view_is c.self.invariant c.deref.ensures.value c.in_ok-judge_settle.ensures.next
    c.index_mut-own.ensures.value).kept

pub settle_at-requires-clause-sound : goal.settle_at-requires-clause-sound
settle_at-requires-clause-sound c =
    (may_settle (core_of c.self.inside) c.args.self.now c.deref.result.now c.args.desk c.args.worker
    c.index_mut-own.result.now c.self.view_is c.self.invariant c.deref.ensures.value c.in_ok-judge_settle.ensures.next
    c.index_mut-own.ensures.value).sound

pub settle_at-requires-clause-next : goal.settle_at-requires-clause-next
settle_at-requires-clause-next c =
    (may_settle (core_of c.self.inside) c.args.self.now c.deref.result.now c.args.desk c.args.worker
    c.index_mut-own.result.now c.self.view_is c.self.invariant c.deref.ensures.value c.in_ok-judge_settle.ensures.next
    c.index_mut-own.ensures.value).next

pub invariant_of-self-2 : goal.invariant_of-self-2
invariant_of-self-2 c =
    let may = c.in_ok-judge_settle.ensures in
    (settled (core_of c.self.inside) c.args.self.now c.deref.result.now c.args.desk c.args.worker
    c.index_mut-own.result.now c.settle_at.new.desk c.self.view_is c.self.invariant c.deref.ensures.value may.ok
    may.next c.index_mut-own.ensures.value c.in_ok-settle_at.ensures.settled).1

pub returns-clause-settled : goal.returns-clause-settled
returns-clause-settled c =
    let may = c.in_ok-judge_settle.ensures in
    (settled (core_of c.self.inside) c.args.self.now c.deref.result.now c.args.desk c.args.worker
    c.index_mut-own.result.now c.settle_at.new.desk c.self.view_is c.self.invariant c.deref.ensures.value may.ok
    may.next c.index_mut-own.ensures.value c.in_ok-settle_at.ensures.settled).0
