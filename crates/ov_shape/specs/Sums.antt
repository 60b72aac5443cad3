-- Sums over the items of a list, and means that are rounded down.
use Rattle.std.specs.Prelude.{◌≡◌, ℕ, ◌+◌, List, [], ◌∷◌}

-- n is a sum over xs: of numbers of which R gives one to each item
abbrev pub IsSum : (ℕ → ℕ → Type 0) → List ℕ → ℕ → Type 0
IsSum R [] n = n ≡ 0
IsSum R (x ∷ xs) n = (first : ℕ) × (rest : ℕ) × R x first × IsSum R xs rest × (n ≡ first + rest)

-- how many parts are one, if a number is told with four decimal digits
abbrev pub parts_of_one : ℕ
parts_of_one = 10000

-- how many parts are one, if a number is told in millionths
abbrev pub one_million : ℕ
one_million = 1000000
