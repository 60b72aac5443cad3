-- What is left of a graph without some of its nodes.
use Rattle.std.proofs.Common.{◌≡◌, ◌∙◌, ℕ, List, [], ◌∷◌, inl, inr, refl, sym, ap, subst}
use Rattle.ov_ids.specs.Members.{Has}
use Rattle.ov_ids.specs.Sets.{without_all}
use Rattle.ov_graph.specs.Changes.{LosesNode}
use Rattle.ov_graph.specs.Links.{LinkGraph, IsGraph, Linked}
use Rattle.ov_graph.proofs.GraphValues.OneGraph.{same_graphs}
use Rattle.ov_answers.specs.Fewer.{LosesNodes}

-- a graph is what is left if nobody is gone
pub loses_nobody : (g : LinkGraph) → IsGraph g → LosesNodes g [] g
loses_nobody g is = record {
  graph = is;
  nodes = refl;
  links = λ l. ((λ h. (h, (λ b. b), (λ b. b))), (λ h. h.0));
}

linked_kept : (g h : LinkGraph) → ((l : ℕ × ℕ) → Has g.links l → Has h.links l) → (a b : ℕ) → Linked g a b
    → Linked h a b
unfolding Linked
linked_kept g h keeps a b (inl at) = inl (keeps (a, b) at)
linked_kept g h keeps a b (inr at) = inr (keeps (b, a) at)

-- and nothing else is
pub loses_none : (g h : LinkGraph) → IsGraph g → LosesNodes g [] h → h ≡ g
loses_none g h is loses =
    same_graphs h g loses.graph is
    (λ a. (subst (λ ns. Has ns a) loses.nodes, subst (λ ns. Has ns a) (sym loses.nodes)))
    (λ a b. (
      linked_kept h g (λ l has. ((loses.links l).0 has).0) a b,
      linked_kept g h (λ l has. (loses.links l).1 (has, (λ x. x), (λ x. x))) a b,
    ))

-- one node is gone, and then the others
pub loses_more : (g m h : LinkGraph) (x : ℕ) (s : List ℕ) → LosesNode g x m → LosesNodes m s h
    → LosesNodes g (x ∷ s) h
loses_more g m h x s one others = record {
  graph = others.graph;
  nodes = others.nodes ∙ ap (without_all s) one.nodes;
  links = λ l. (
    (λ has.
        let inner = (others.links l).0 has in
        let outer = (one.links l).0 inner.0 in (
          outer.0,
          (λ b. elim b [ inl e ↦ outer.1 (sym e) | inr more ↦ inner.1 more ]),
          (λ b. elim b [ inl e ↦ outer.2 (sym e) | inr more ↦ inner.2 more ]),
        )),
    (λ has. (others.links l).1 (
      (one.links l).1 (has.0, (λ e. has.1 (inl (sym e))), (λ e. has.2 (inl (sym e)))),
      (λ b. has.1 (inr b)),
      (λ b. has.2 (inr b)),
    )),
  );
}
