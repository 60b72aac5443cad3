-- How many neighbours nodes have.
use Rattle.std.proofs.Common.{◌≡◌, ◌∙◌, ◌<◌, ◌≤◌, ◌+◌, ℕ, List, length, get_or, min, refl, sym, ap, subst, inl, inr}
use Rattle.std.proofs.Common.{arith}
use Rattle.ov_graph.specs.Links.{LinkGraph, IsGraph, AreNeighbours}
use Rattle.ov_graph.proofs.EvenTest.Filtered.{linked_node, neighbours_one}
use Rattle.ov_ids.specs.Members.{Has}
use Rattle.ov_ids.proofs.Members.{place_of}
use Rattle.std.proofs.lemmas.Bool.{cases_lt}
use Rattle.std.proofs.lemmas.Option.{get_or_from_slice_get, slice_get_read}
use Rattle.ov_sweep.specs.Rows.{HasDegree, IsLeastDegree}
use Rattle.ov_sweep.proofs.Fitting.{fits}

-- a node has no more neighbours than there are nodes
pub few_neighbours :
    (g : LinkGraph) (a : ℕ) (ns : List ℕ) → IsGraph g → AreNeighbours g a ns → length ns ≤ length g.nodes
few_neighbours g a ns graph are =
    fits (λ x y. x < y) (λ x h. omega (arith, h)) ns g.nodes are.ascend
    (λ b has. linked_node g a b graph ((are.each b).0 has))

-- a node has one number of neighbours
pub one_degree : (g : LinkGraph) (a n m : ℕ) → IsGraph g → HasDegree g a n → HasDegree g a m → n ≡ m
one_degree g a n m graph first second =
    sym first.2 ∙ (ap (λ (ns : List ℕ). length ns)
    (neighbours_one g a first.0 graph first.1 ∙ sym (neighbours_one g a second.0 graph second.1)) ∙ second.2)

-- the least of the degrees so far, and of one more
pub least_more :
    (g : LinkGraph) (least d n i a : ℕ) → IsGraph g → n ≡ min least d → i < length g.nodes → a ≡ get_or g.nodes i a
    → HasDegree g a d
    → ((b : ℕ) × Has g.nodes b × HasDegree g b least) → Has g.nodes a
    → ((j m : ℕ) → j < i → HasDegree g (get_or g.nodes j 0) m → least ≤ m)
    → ((b : ℕ) × Has g.nodes b × HasDegree g b n)
    × ((j m : ℕ) → j < i + 1 → HasDegree g (get_or g.nodes j 0) m → n ≤ m)
least_more g least d n i a graph is within read of_a reached there below =
    let at = sym (get_or_from_slice_get g.nodes i a 0
    (slice_get_read g.nodes (length g.nodes) i a refl within read)) in (
      elim (cases_lt d least) [
        | inl less ↦ (a, there, subst (HasDegree g a) (omega (arith, less, is)) of_a)
        | inr more ↦ (reached.0, reached.1, subst (HasDegree g reached.0) (omega (arith, more, is)) reached.2)
      ],
      λ j m low of_j. elim (cases_lt j i) [
        | inl less ↦ (let l = below j m less of_j in omega (arith, l, is))
        | inr more ↦
            (let same : j ≡ i = omega (arith, low, more) in
            let e = one_degree g a d m graph of_a (subst (λ (b : ℕ). HasDegree g b m)
            (ap (λ (k : ℕ). get_or g.nodes k 0) same ∙ sym at) of_j) in
            omega (arith, e, is))
      ],
    )

-- of all nodes
pub least_all : (g : LinkGraph) (least i : ℕ) → length g.nodes ≤ i → ((b : ℕ) × Has g.nodes b × HasDegree g b least)
    → ((j m : ℕ) → j < i → HasDegree g (get_or g.nodes j 0) m → least ≤ m) → IsLeastDegree g least
least_all g least i end reached below = record {
  node = reached.0;
  is_node = reached.1;
  reached = reached.2;
  least = λ a m there of_a.
      let p = place_of g.nodes a there in
      below p.0 m (let within = p.1 in omega (arith, within, end)) (subst (λ (b : ℕ). HasDegree g b m) (sym p.2) of_a);
}
