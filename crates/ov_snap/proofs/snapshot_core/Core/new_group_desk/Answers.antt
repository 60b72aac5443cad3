use Rattle.std.proofs.Common.{List, ℕ, inl, subst, sym}
use Rattle.std.proofs.lemmas.Bool.{both_ways}
use Rattle.ov_graph.specs.Links.{IsGroup, LinkGraph}
use Rattle.ov_snap.specs.Refusals.{WorkersJudged}
use Rattle.ov_snap.proofs.Refusing.{no_group}
use Rattle.ov_snap.proofs.snapshot_core.Core.new_group_desk.Goals as goal

pub returns-then-not-is_group-clause-refused : goal.returns-then-not-is_group-clause-refused
returns-then-not-is_group-clause-refused c =
    let s = c.in_ok-snapshot in
    inl (no_group c.args.self.now c.args.moment c.args.group.items s.snapshot.now.graph
    (WorkersJudged c.args.self.now c.args.workers) s.ensures.ok s.ensures.links
    (subst (λ (q : List ℕ). ¬ IsGroup s.snapshot.now.graph q) c.deref-2.ensures.value
    (λ k. both_ways c.is_group.result c.if-not-is_group.true (c.is_group.ensures.1
    (subst (λ (g : LinkGraph). IsGroup g c.deref-2.result.now) (sym c.deref.ensures) k)))))
