-- Definitions that several others use.
use Rattle.std.specs.Prelude.{ℕ, Bool, List, nat_eq}
use Rattle.std.specs.Cmp.Lexicographic.{pointwise}

-- two lists are equal; used for texts and for lists of ids
abbrev pub are_same : List ℕ → List ℕ → Bool
are_same xs ys = pointwise nat_eq xs ys
