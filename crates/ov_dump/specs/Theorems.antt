-- Theorems about every dump.
use Rattle.std.specs.Prelude.{◌≡◌, ℕ, List}
use Rattle.ov_graph.specs.Links.{LinkGraph}
use Rattle.ov_dump.specs.Dumps.{IsGraphOf}
use Rattle.ov_dump.specs.declared.dump_and_graph_types.Choice.{Choice}
use Rattle.ov_dump.specs.declared.dump_and_graph_types.Dump.{Dump}

-- one graph with its names follows from a dump at most
abbrev pub OneGraph : Type 0
OneGraph = (choice : Choice) (d : Dump) (g h : LinkGraph) (names others : List (List ℕ))
    → IsGraphOf choice d g names → IsGraphOf choice d h others → (g ≡ h) × (names ≡ others)
