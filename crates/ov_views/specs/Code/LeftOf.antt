-- What is left of a list from which items were taken by their places.
use Rattle.std.specs.Prelude.{ℕ, List, [], ◌∷◌, remove}

-- the items that are left after those at these places were taken out, one after another; each place is counted from 0
-- among those that were left then
abbrev pub left_of : List ℕ → List ℕ → List ℕ
left_of items [] = items
left_of items (place ∷ places) = left_of (remove items place) places
