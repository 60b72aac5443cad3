-- A theorem about the components that a crash leaves.
use Rattle.std.specs.Prelude.{◌≡◌, ℕ, List}
use Rattle.ov_graph.specs.Links.{LinkGraph}
use Rattle.ov_components.specs.Components.{AreComponents}

-- a crash leaves one list of components: `AreComponents` fixes it
abbrev pub OneDivision : Type 0
OneDivision =
    (g : LinkGraph) (s : List ℕ) (ps qs : List (List ℕ)) → AreComponents g s ps → AreComponents g s qs → ps ≡ qs
