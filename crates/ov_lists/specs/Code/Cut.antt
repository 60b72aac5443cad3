-- Paths whose ids stand one after another in one list. Each path has an end: the number of ids up to its last one.
use Rattle.std.specs.Prelude.{◌≡◌, ℕ, zero, suc, ◌≤◌, List, [], ◌∷◌, get_or}
use Rattle.std.specs.List.{slice_range}

-- the paths with these ends. The first begins after as many ids as `start`, and each next one where the one before ends
abbrev pub paths_from : ℕ → List ℕ → List ℕ → List (List ℕ)
paths_from start [] ids = []
paths_from start (e ∷ ends) ids = slice_range ids start e ∷ paths_from e ends ids

-- no path ends before it begins, and the last one ends after as many ids as `last`
abbrev pub AreEnds : ℕ → List ℕ → ℕ → Type 0
AreEnds start [] last = start ≡ last
AreEnds start (e ∷ ends) last = (start ≤ e) × AreEnds e ends last

-- how many ids there are before the path at a place
abbrev pub start_at : ℕ → List ℕ → ℕ → ℕ
start_at start ends zero = start
start_at start ends (suc i) = get_or ends i 0
