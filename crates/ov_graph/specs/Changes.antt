-- One change of a graph g, after which it is h. As h is a graph (`IsGraph`), each definition determines h.
use Rattle.std.specs.Prelude.{◌≡◌, ◌≢◌, ◌↔◌, ◌⊎◌, ℕ}
use Rattle.ov_ids.specs.Members.{Has}
use Rattle.ov_ids.specs.Sets.{adding, without}
use Rattle.ov_graph.specs.Links.{LinkGraph, Linked}

-- h is g with one more node, id, which has no links
pub record GainsNode (g : LinkGraph) (id : ℕ) (h : LinkGraph) : Type 0 where
  pub nodes : h.nodes ≡ adding id g.nodes
  pub links : h.links ≡ g.links

-- h is g without the node id and its links. If id is no node, h is g
pub record LosesNode (g : LinkGraph) (id : ℕ) (h : LinkGraph) : Type 0 where
  pub nodes : h.nodes ≡ without id g.nodes
  pub links : (l : ℕ × ℕ) → Has h.links l ↔ (Has g.links l × (l.0 ≢ id) × (l.1 ≢ id))

-- x and y are a and b, in either order
abbrev pub ArePair : ℕ → ℕ → ℕ → ℕ → Type 0
ArePair a b x y = ((x ≡ a) × (y ≡ b)) ⊎ ((x ≡ b) × (y ≡ a))

-- h is g with a link between a and b
pub record GainsLink (g : LinkGraph) (a b : ℕ) (h : LinkGraph) : Type 0 where
  pub nodes : h.nodes ≡ g.nodes
  pub links : (x y : ℕ) → Linked h x y ↔ (ArePair a b x y ⊎ Linked g x y)

-- h is g without a link between a and b
pub record LosesLink (g : LinkGraph) (a b : ℕ) (h : LinkGraph) : Type 0 where
  pub nodes : h.nodes ≡ g.nodes
  pub links : (x y : ℕ) → Linked h x y ↔ (¬ ArePair a b x y × Linked g x y)
