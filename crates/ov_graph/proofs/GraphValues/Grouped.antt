-- Ids that are a group of a graph.
use Rattle.std.proofs.Common.{◌≡◌, ◌∙◌, ◌↔◌, ℕ, ◌<◌, List, [], ◌∷◌, Bool, true, IsTrue, length, refl, inl, inr, sym}
use Rattle.std.proofs.Common.{subst}
use Rattle.std.proofs.lemmas.Bool.{and_parts, and_from}
use Rattle.std.specs.List.{list_all}
use Rattle.ov_ids.specs.Members.{Has, Ascends}
use Rattle.ov_ids.specs.Sets.{has}
use Rattle.ov_ids.proofs.Members.{has_tested}
use Rattle.ov_graph.specs.Links.{LinkGraph, IsGroup}

-- all are nodes
all_nodes : (nodes ids : List ℕ) → list_all (has nodes) ids ≡ true → (x : ℕ) → Has ids x → Has nodes x
all_nodes nodes [] h x k = absurd k
all_nodes nodes (y ∷ ys) h x k =
    let p = and_parts (has nodes y) (list_all (has nodes) ys) h in
    elim k [
      | inl e ↦ subst (Has nodes) e ((has_tested nodes y (has nodes y) refl).0 p.0)
      | inr m ↦ all_nodes nodes ys p.1 x m
    ]

nodes_all : (nodes ids : List ℕ) → ((x : ℕ) → Has ids x → Has nodes x) → list_all (has nodes) ids ≡ true
nodes_all nodes [] each = refl
nodes_all nodes (y ∷ ys) each =
    and_from (has nodes y) (list_all (has nodes) ys) ((has_tested nodes y (has nodes y) refl).1 (each y (inl refl)))
    (nodes_all nodes ys (λ x h. each x (inr h)))

-- one or more ascending ids are a group where all are nodes
pub group_tested : (g : LinkGraph) (q : List ℕ) (b : Bool) → 0 < length q → Ascends q → b ≡ list_all (has g.nodes) q
    → IsTrue b ↔ IsGroup g q
group_tested g q b some up e = (
  (λ t. record { some_member = some; ascends = up; nodes = all_nodes g.nodes q (sym e ∙ t) }),
  (λ group. e ∙ nodes_all g.nodes q group.nodes),
)
