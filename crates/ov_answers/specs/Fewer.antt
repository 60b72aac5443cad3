-- A graph without some of its nodes.
use Rattle.std.specs.Prelude.{◌≡◌, ◌↔◌, ℕ, List}
use Rattle.ov_ids.specs.Members.{Has}
use Rattle.ov_ids.specs.Sets.{without_all}
use Rattle.ov_graph.specs.Links.{LinkGraph, IsGraph}

-- h is g without the nodes in s and their links, and so what their crash leaves of g. As h is a graph, this determines
-- it. Ids in s that are no nodes count for nothing
pub record LosesNodes (g : LinkGraph) (s : List ℕ) (h : LinkGraph) : Type 0 where
  pub graph : IsGraph h
  pub nodes : h.nodes ≡ without_all s g.nodes
  pub links : (l : ℕ × ℕ) → Has h.links l ↔ (Has g.links l × ¬ Has s l.0 × ¬ Has s l.1)
