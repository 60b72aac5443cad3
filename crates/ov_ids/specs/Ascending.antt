-- The test whether a list ascends, from its first id on. `is_ascending` says that it agrees with the relation
-- `Ascends`.
use Rattle.std.specs.Prelude.{ℕ, ◌&&◌, Bool, true, Option, Some, None, List, [], ◌∷◌, nat_lt}

-- whether x is above the id before it, if there is one
abbrev pub is_over : Option ℕ → ℕ → Bool
is_over None x = true
is_over (Some before) x = nat_lt before x

-- whether each id is above the one before it
abbrev pub ascends_after : Option ℕ → List ℕ → Bool
ascends_after before [] = true
ascends_after before (x ∷ rest) = is_over before x && ascends_after (Some x) rest
