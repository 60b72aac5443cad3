-- The components of a graph that a crash of nodes leaves.
use Rattle.std.specs.Prelude.{ℕ, ◌<◌, ◌↔◌, List, length, slice_index}
use Rattle.ov_ids.specs.Members.{Has, Ordered, Ascends}
use Rattle.ov_graph.specs.Links.{LinkGraph}
use Rattle.ov_graph.specs.Joined.{Survives, Joined}

-- a component: one or more nodes, in ascending order. With each of its members it has exactly the nodes that are joined
-- to this member without the nodes in s. So all its members survive
pub record IsComponent (g : LinkGraph) (s component : List ℕ) : Type 0 where
  pub some_member : 0 < length component
  pub ascends : Ascends component
  pub joined : (a b : ℕ) → Has component a → Has component b ↔ Joined g s a b

-- the first id of p is below that of q
abbrev pub BeginsBelow : List ℕ → List ℕ → Type 0
BeginsBelow p q = slice_index p 0 < slice_index q 0

-- the components that the crash of the nodes in s leaves: each survivor is in one, and they stand in the order of their
-- first ids
pub record AreComponents (g : LinkGraph) (s : List ℕ) (components : List (List ℕ)) : Type 0 where
  pub each : (p : List ℕ) → Has components p → IsComponent g s p
  pub all : (a : ℕ) → Survives g.nodes s a → (p : List ℕ) × Has components p × Has p a
  pub order : Ordered BeginsBelow components
