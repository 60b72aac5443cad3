-- A table of names, by the places of nodes.
use Rattle.std.specs.Prelude.{◌≡◌, ◌⊎◌, ℕ, List, Option}
use Rattle.ov_ids.specs.Members.{Has}
use Rattle.ov_graph.specs.Links.{LinkGraph}
use Rattle.ov_graphfile.specs.NameLines.{IsNamedBy}
use Rattle.ov_graphfile.specs.NamesState.{IsNamed, names_of}

-- the node n gets this name if it is a node of g. All other names stay
pub record Keeps (g : LinkGraph) (n : ℕ) (name : List ℕ) (old new : List (Option (List ℕ))) : Type 0 where
  pub from : (m : ℕ) (s : List ℕ) → IsNamed (names_of g new) m s
      → IsNamed (names_of g old) m s ⊎ ((m ≡ n) × (s ≡ name))
  pub stay : (m : ℕ) (s : List ℕ) → IsNamed (names_of g old) m s → (t : List ℕ) × IsNamed (names_of g new) m t
  pub gains : Has g.nodes n → (t : List ℕ) × IsNamed (names_of g new) n t

-- a comment and the line behind it name a node, which gets this name, or they name none, and nothing changes
abbrev pub TakesLine :
    LinkGraph → List ℕ → List ℕ → List (Option (List ℕ)) → List (Option (List ℕ)) → Type 0
TakesLine g comment line old new =
    ((n : ℕ) × (name : List ℕ) × IsNamedBy comment line n name × Keeps g n name old new)
    ⊎ (((n : ℕ) (name : List ℕ) → ¬ IsNamedBy comment line n name) × (new ≡ old))
