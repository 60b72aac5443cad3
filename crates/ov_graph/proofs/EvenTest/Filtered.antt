-- The neighbours of a node.
use Rattle.std.proofs.Common.{◌≡◌, ℕ, ◌<◌, inl, inr, List, [], ◌∷◌, Bool, true, false, filter, cond, refl, sym, subst}
use Rattle.std.proofs.lemmas.Bool.{both_ways}
use Rattle.std.specs.List.{AllByRecursion}
use Rattle.ov_ids.specs.Members.{Has, Ascends}
use Rattle.ov_ids.proofs.Members.{same_ascending}
use Rattle.ov_graph.specs.Links.{LinkGraph, IsGraph, Linked, AreNeighbours}
use Rattle.ov_graph.specs.Code.Tests.{are_joined, neighbours_in}
use Rattle.ov_graph.proofs.EvenTest.Tested.{joined_tested}

all_filter : (P : ℕ → Type 0) (p : ℕ → Bool) (xs : List ℕ) → AllByRecursion P xs → AllByRecursion P (filter p xs)
all_filter P p [] a = tt
all_filter P p (x ∷ xs) a = elim (p x) as (λ b. AllByRecursion P (cond b (x ∷ filter p xs) (filter p xs))) [
  | true ↦ (a.0, all_filter P p xs a.1)
  | false ↦ all_filter P p xs a.1
]

ascends_filter : (p : ℕ → Bool) (xs : List ℕ) → Ascends xs → Ascends (filter p xs)
ascends_filter p [] up = tt
ascends_filter p (x ∷ xs) up = elim (p x) as (λ b. Ascends (cond b (x ∷ filter p xs) (filter p xs))) [
  | true ↦ (all_filter (λ y. x < y) p xs up.0, ascends_filter p xs up.1)
  | false ↦ ascends_filter p xs up.1
]

pub has_filter : (p : ℕ → Bool) (xs : List ℕ) (x : ℕ) → Has xs x → p x ≡ true → Has (filter p xs) x
has_filter p [] x h e = h
has_filter p (y ∷ ys) x h e =
    elim (p y) as (λ b. p y ≡ b → Has (cond b (y ∷ filter p ys) (filter p ys)) x) [
      | true ↦ λ t. elim h [ inl s ↦ inl s | inr k ↦ inr (has_filter p ys x k e) ]
      | false ↦ λ t. elim h [
        | inl s ↦ let u : p y ≡ true = subst (λ (z : ℕ). p z ≡ true) (sym s) e in absurd (both_ways (p y) t u)
        | inr k ↦ has_filter p ys x k e
      ]
    ] refl

pub has_filtered : (p : ℕ → Bool) (xs : List ℕ) (x : ℕ) → Has (filter p xs) x → Has xs x × (p x ≡ true)
has_filtered p [] x h = absurd h
has_filtered p (y ∷ ys) x h =
    elim (p y) as (λ b. p y ≡ b → Has (cond b (y ∷ filter p ys) (filter p ys)) x → Has (y ∷ ys) x × (p x ≡ true)) [
      | true ↦ λ t k. elim k [
        | inl s ↦ (inl s, subst (λ (z : ℕ). p z ≡ true) s t)
        | inr m ↦ let r = has_filtered p ys x m in (inr r.0, r.1)
      ]
      | false ↦ λ t k. let r = has_filtered p ys x k in (inr r.0, r.1)
    ] refl h

-- what is linked is a node
pub linked_node : (g : LinkGraph) (a b : ℕ) → IsGraph g → Linked g a b → Has g.nodes b
unfolding Linked
linked_node g a b graph l = elim l [ inl h ↦ (graph.joins (a, b) h).2 | inr h ↦ (graph.joins (b, a) h).1 ]

pub are_neighbours : (g : LinkGraph) (a : ℕ) → IsGraph g → AreNeighbours g a (neighbours_in g.links a g.nodes)
are_neighbours g a graph = record {
  ascend = ascends_filter (λ b. are_joined g.links a b) g.nodes graph.nodes_ascend;
  each = λ b. (
    (λ h. let r = has_filtered (λ x. are_joined g.links a x) g.nodes b h in
        (joined_tested g a b true (sym r.1)).0 refl),
    (λ l. has_filter (λ x. are_joined g.links a x) g.nodes b (linked_node g a b graph l)
        ((joined_tested g a b (are_joined g.links a b) refl).1 l)),
  );
}

-- a node has one list of neighbours
pub neighbours_one : (g : LinkGraph) (a : ℕ) (ns : List ℕ) → IsGraph g → AreNeighbours g a ns
    → ns ≡ neighbours_in g.links a g.nodes
neighbours_one g a ns graph n =
    let m = are_neighbours g a graph in
    same_ascending ns (neighbours_in g.links a g.nodes) n.ascend m.ascend (λ x h. (m.each x).1 ((n.each x).0 h))
    (λ x h. (n.each x).1 ((m.each x).0 h))
