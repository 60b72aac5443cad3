-- Walks, the sets of nodes that split a group, and the size of the smallest such set (Menger, Fund. Math. 10, 1927;
-- Even, SIAM J. Comput. 4, 1975: "An algorithm for determining whether the connectivity of a graph is at least k").
-- `Fewest` is the same for the group of all nodes.
use Rattle.std.specs.Prelude.{◌≡◌, ◌≢◌, ◌⊎◌, ℕ, ◌+◌, ◌<◌, List, [], ◌∷◌, length}
use Rattle.ov_ids.specs.Members.{Has, Ascends}
use Rattle.ov_graph.specs.Links.{LinkGraph, Linked, AreAllLinked, IsGroup}

-- the list leads from a to b by steps of R: R holds from a to its first item and from each item to the next, and its
-- last item is b. An empty list leads from a to a
abbrev pub Leads : (ℕ → ℕ → Type 0) → ℕ → List ℕ → ℕ → Type 0
Leads R a [] b = a ≡ b
Leads R a (x ∷ xs) b = R a x × Leads R x xs b

-- a walk: the list begins with a and ends with b, and each node is linked to the next
abbrev pub IsWalk : LinkGraph → ℕ → List ℕ → ℕ → Type 0
IsWalk g a [] b = ⊥
IsWalk g a (x ∷ rest) b = (x ≡ a) × Leads (Linked g) a rest b

-- x is in xs, and survives the crash of the nodes in s
abbrev pub Survives : List ℕ → List ℕ → ℕ → Type 0
Survives xs s x = Has xs x × ¬ Has s x

-- a is joined to b without s: a walk over surviving nodes leads from a to b
abbrev pub Joined : LinkGraph → List ℕ → ℕ → ℕ → Type 0
Joined g s a b = (walk : List ℕ) × IsWalk g a walk b × ((x : ℕ) → Has walk x → Survives g.nodes s x)

-- s is a set of nodes of g, in ascending order
pub record IsNodeSet (g : LinkGraph) (s : List ℕ) : Type 0 where
  pub ascends : Ascends s
  pub nodes : (x : ℕ) → Has s x → Has g.nodes x

-- s splits q: s is a set of nodes, and some two different surviving members of q are not joined without it
pub record SplitsGroup (g : LinkGraph) (q s : List ℕ) : Type 0 where
  pub set : IsNodeSet g s
  pub a : ℕ
  pub b : ℕ
  pub a_survives : Survives q s a
  pub b_survives : Survives q s b
  pub differ : a ≢ b
  pub parted : ¬ Joined g s a b

-- no set of fewer than k nodes splits q: without such a set every two surviving members of q are joined
abbrev pub NoFewerSplit : LinkGraph → List ℕ → ℕ → Type 0
NoFewerSplit g q k = (s : List ℕ) → length s < k → (a b : ℕ) → Survives q s a → Survives q s b → Joined g s a b

-- q is a group, and k is the size of the smallest set of nodes that splits it. If every two members are linked, no set
-- splits it, and k is one less than the number of members
pub record FewestForGroup (g : LinkGraph) (q : List ℕ) (k : ℕ) : Type 0 where
  pub group : IsGroup g q
  pub reached : ((s : List ℕ) × (length s ≡ k) × SplitsGroup g q s) ⊎ (AreAllLinked g q × (length q ≡ k + 1))
  pub least : (s : List ℕ) → length s < k → ¬ SplitsGroup g q s

-- k is the node connectivity of the graph: the size of the smallest set of nodes that splits it, or one less than the
-- number of nodes if every two are linked
abbrev pub Fewest : LinkGraph → ℕ → Type 0
Fewest g k = FewestForGroup g g.nodes k
