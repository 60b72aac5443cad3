-- The walk opens one more end, which comes after the others.
use Rattle.std.proofs.Common.{◌∙◌, ℕ, inl, inr, List, [], ◌∷◌, length, sym, subst, arith}
use Rattle.ov_ids.specs.Members.{Has}
use Rattle.ov_ids.proofs.Members.{has_append_cases}
use Rattle.ov_split.specs.Places.{net_by_place}
use Rattle.ov_split.specs.Code.Residual.{AreHeld, IsTidy}
use Rattle.ov_split.proofs.Augmenting.Move.{start_held}
use Rattle.ov_flow.specs.Code.Walked.{table_of}
use Rattle.ov_flow.proofs.Beginning.{ends_few}
use Rattle.ov_flow.proofs.Copying.{held_turned}
use Rattle.ov_flow.proofs.Tidying.{tidy_turned}
use Rattle.ov_flow.proofs.layered_walks.take_walk.Goals as goal

pub push_reserved-requires : goal.push_reserved-requires
push_reserved-requires g c =
    let w = c.args.work.now in
    let less = ends_few (net_by_place c.args.net.now) (length c.args.net.now.graph.nodes) (table_of w.from)
    w.ends.items c.requires.ready.placed c.requires.work.held c.requires.work.targets in
    let len = w.ends.ok.0 in
    let room = c.requires.work.room.ends in
    omega (arith, less, len, room)

pub returns-clause-work : goal.returns-clause-work
returns-clause-work g c =
    let n = net_by_place c.args.net.now in
    let w = c.args.work.now in
    let target = c.args.target in
    let ends = w.ends.items in
    let i = c.requires.work in
    let new = table_of c.take_hops.new.from in
    let items = c.push_reserved.ensures.items in
    let off : ¬ Has ends n.source = λ h. c.requires.ready.placed.net.no_target (i.targets n.source h) in
    let start = start_held n (table_of w.from) ends i.held off in
    record {
      room = record {
        from = c.take_hops.ensures.long ∙ i.room.from;
        next = i.room.next;
        tree = i.room.tree;
        hops = i.room.hops;
        ends = let kept = c.push_reserved.ensures.capacity in let r = i.room.ends in omega (arith, kept, r);
      };
      held = subst (AreHeld n new) (sym items) (held_turned n new target ends (c.take_hops.ensures.held ends start));
      targets = λ e h. elim (has_append_cases ends (target ∷ []) e (subst (λ (l : List ℕ). Has l e) items h)) [
        | inl k ↦ i.targets e k
        | inr k ↦ elim k [ inl s ↦ subst (Has n.targets) s c.requires.target | inr z ↦ absurd z ]
      ];
    }

pub returns-clause-tidy : goal.returns-clause-tidy
returns-clause-tidy g c met tidy =
    let target = c.args.target in
    let ends = c.args.work.now.ends.items in
    let new = table_of c.take_hops.new.from in
    subst (IsTidy new) (sym c.push_reserved.ensures.items)
    (tidy_turned new target ends (c.take_hops.ensures.tidy met ends tidy))
