use Rattle.std.proofs.Common.{inl, subst, sym}
use Rattle.std.proofs.lemmas.Bool.{both_ways}
use Rattle.ov_graph.specs.Links.{IsGroup, LinkGraph}
use Rattle.ov_ids.specs.FaultOrder.{Passed}
use Rattle.ov_snap.proofs.Refusing.{no_group}
use Rattle.ov_snap.proofs.snapshot_core.Core.begin_group.Goals as goal

pub returns-then-not-is_group-clause-refused : goal.returns-then-not-is_group-clause-refused
returns-then-not-is_group-clause-refused c =
    let s = c.in_ok-snapshot in
    inl (no_group c.args.self.now c.args.moment c.args.group.now s.snapshot.now.graph Passed s.ensures.ok
    s.ensures.links
    (λ k. both_ways c.is_group.result c.if-not-is_group.true (c.is_group.ensures.1
    (subst (λ (g : LinkGraph). IsGroup g c.args.group.now) (sym c.deref.ensures) k))))
