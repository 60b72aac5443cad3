use Rattle.ov_snap.specs.Code.Kept.{core_of}
use Rattle.ov_snap.proofs.DeskCalls.{looked}
use Rattle.ov_snap.proofs.snapshot_core.Core.look.Goals as goal

pub invariant_of-self : goal.invariant_of-self
invariant_of-self c =
    let may = c.in_ok-judge_look.ensures in
    (looked (core_of c.self.inside) c.args.self.now c.args.desk c.args.worker c.look.result c.index_mut-own.result.now
    c.look.new.self c.self.view_is c.self.invariant may.ok may.next c.index_mut-own.ensures.value c.look.ensures).1

pub returns-clause-looked : goal.returns-clause-looked
returns-clause-looked c =
    let may = c.in_ok-judge_look.ensures in
    (looked (core_of c.self.inside) c.args.self.now c.args.desk c.args.worker c.look.result c.index_mut-own.result.now
    c.look.new.self c.self.view_is c.self.invariant may.ok may.next c.index_mut-own.ensures.value c.look.ensures).0
