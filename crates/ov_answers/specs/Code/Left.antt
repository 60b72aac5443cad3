-- What is left of lists of ids and of links.
use Rattle.std.specs.Prelude.{ℕ, Bool, not, ◌&&◌, List, filter}
use Rattle.ov_ids.specs.Sets.{has}

-- the ids that are not in s
abbrev pub ids_left : List ℕ → List ℕ → List ℕ
ids_left s ids = filter (λ x. not (has s x)) ids

-- no end of a link is in s
abbrev pub is_left : List ℕ → ℕ × ℕ → Bool
is_left s l = not (has s l.0) && not (has s l.1)

-- the links that have no end in s
abbrev pub links_left : List ℕ → List (ℕ × ℕ) → List (ℕ × ℕ)
links_left s links = filter (λ l. is_left s l) links
