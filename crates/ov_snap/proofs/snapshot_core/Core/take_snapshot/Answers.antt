use Rattle.std.proofs.Common.{◌∙◌, ◌++◌, ◌∷◌, [], List, ap}
use Rattle.ov_snap.specs.Code.Kept.{core_of}
use Rattle.ov_snap.specs.declared.kept_snapshots.Snapshot.{Snapshot}
use Rattle.ov_snap.proofs.Keeping.{snapshot_taken}
use Rattle.ov_snap.proofs.snapshot_core.Core.take_snapshot.Goals as goal

pub invariant_of-self-2 : goal.invariant_of-self-2
invariant_of-self-2 c =
    let s : Snapshot = record { moment = c.in_ok-entry.entry.number; graph = c.in_ok-graph.graph } in
    let ok = c.in_ok-entry.ensures in
    (snapshot_taken (core_of c.self.inside) c.args.self.now c.args.words.now c.in_ok-entry.entry c.step.new.self
    c.in_ok-graph.graph c.push_reserved.new.self.items c.self.view_is c.self.invariant ok.judged ok.step ok.journal
    ok.number c.in_ok-graph.ensures
    (c.push_reserved.ensures.items ∙ ap (λ (l : List Snapshot). l ++ s ∷ []) c.make_room.ensures.items)).1

pub returns-clause-happened : goal.returns-clause-happened
returns-clause-happened c =
    let s : Snapshot = record { moment = c.in_ok-entry.entry.number; graph = c.in_ok-graph.graph } in
    let ok = c.in_ok-entry.ensures in
    (snapshot_taken (core_of c.self.inside) c.args.self.now c.args.words.now c.in_ok-entry.entry c.step.new.self
    c.in_ok-graph.graph c.push_reserved.new.self.items c.self.view_is c.self.invariant ok.judged ok.step ok.journal
    ok.number c.in_ok-graph.ensures
    (c.push_reserved.ensures.items ∙ ap (λ (l : List Snapshot). l ++ s ∷ []) c.make_room.ensures.items)).0
