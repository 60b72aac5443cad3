-- Paths in one flat list: each is written from its end back to the source, and the source is nowhere else.
use Rattle.std.specs.Prelude.{ℕ, ◌-◌, ◌==◌, List, [], ◌∷◌, length, get_or, if◌then◌else◌}

-- the paths of a flat list. `ahead` is the part of the first path that was read already
unfoldable pub paths_after : ℕ → List ℕ → List ℕ → List (List ℕ)
paths_after source ahead [] = []
paths_after source ahead (p ∷ flat) =
    if p == source then (source ∷ ahead) ∷ paths_after source [] flat else paths_after source (p ∷ ahead) flat

-- the paths of a flat list. Its last place is the source
unfoldable pub paths_in : List ℕ → List (List ℕ)
paths_in flat = paths_after (get_or flat (length flat - 1) 0) [] flat
