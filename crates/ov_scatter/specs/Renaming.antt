-- Graphs that are the same but for the ids of their nodes.
use Rattle.std.specs.Prelude.{◌≡◌, ◌↔◌, ◌<◌, ℕ, List, length, slice_index}
use Rattle.ov_ids.specs.Members.{Has}
use Rattle.ov_graph.specs.Links.{LinkGraph, Linked}
use Rattle.ov_graph.specs.Paths.{node_at}

-- h and r are g and q under other ids. No two nodes of g get the same id. The nodes of h are those of g, renamed, and
-- the members of r are those of q, renamed. Two nodes are linked in h exactly if they are in g
pub record IsRenamed (g : LinkGraph) (q : List ℕ) (h : LinkGraph) (r : List ℕ) : Type 0 where
  pub renaming : ℕ → ℕ
  pub one_to_one : (a b : ℕ) → Has g.nodes a → Has g.nodes b → renaming a ≡ renaming b → a ≡ b
  pub nodes : (i : ℕ) → Has h.nodes i ↔ ((a : ℕ) × Has g.nodes a × (renaming a ≡ i))
  pub links : (a b : ℕ) → Has g.nodes a → Has g.nodes b → Linked h (renaming a) (renaming b) ↔ Linked g a b
  pub group : (i : ℕ) → Has r i ↔ ((a : ℕ) × Has q a × (renaming a ≡ i))

-- h is g under these ids: that at place p is the new id of the node at place p of g. No two are the same. They are the
-- nodes of h, and two nodes of h are linked exactly if those of g are
pub record AreNewIds (g : LinkGraph) (ids : List ℕ) (h : LinkGraph) : Type 0 where
  pub count : length ids ≡ length g.nodes
  pub one_to_one : (p q : ℕ) → p < length g.nodes → q < length g.nodes → slice_index ids p ≡ slice_index ids q → p ≡ q
  pub nodes : (i : ℕ) → Has h.nodes i ↔ Has ids i
  pub links : (p q : ℕ) → p < length g.nodes → q < length g.nodes
      → Linked h (slice_index ids p) (slice_index ids q) ↔ Linked g (node_at g p) (node_at g q)
