-- The path that goes along a link, found by tests.
use Rattle.std.specs.Prelude.{ℕ, suc, ◌==◌, ◌&&◌, ◌||◌, nat_lt, Bool, false, if◌then◌else◌, List, [], ◌∷◌}
use Rattle.std.specs.Prelude.{Option, Some, None}
use Rattle.std.specs.declared.cmp.Ordering.{Ordering}
use Rattle.std.specs.Ordering.{nat_cmp, ordering_then}

-- the order of pairs of ids
abbrev pub link_cmp : ℕ × ℕ → ℕ × ℕ → Ordering
link_cmp k l = ordering_then (nat_cmp k.0 l.0) (nat_cmp k.1 l.1)

-- the step between a and b is along the link, whose lower end is first
abbrev pub is_step : ℕ × ℕ → ℕ → ℕ → Bool
is_step l a b = if nat_lt a b then (a == l.0) && (b == l.1) else (b == l.0) && (a == l.1)

-- whether a step of the path is along the link
abbrev pub goes_along : List ℕ → ℕ × ℕ → Bool
goes_along [] l = false
goes_along (a ∷ []) l = false
goes_along (a ∷ b ∷ rest) l = is_step l a b || goes_along (b ∷ rest) l

-- what was found, or else `at` if the test passes
abbrev pub or_at : Option ℕ → Bool → ℕ → Option ℕ
or_at (Some found) passes at = Some found
or_at None passes at = if passes then Some at else None

-- what was found, or else what comes later
abbrev pub or_later : Option ℕ → Option ℕ → Option ℕ
or_later (Some found) later = Some found
or_later None later = later

-- the place of the first path along the link, if the first of these paths is at `at`
abbrev pub path_from : ℕ → List (List ℕ) → ℕ × ℕ → Option ℕ
path_from at [] l = None
path_from at (p ∷ ps) l = if goes_along p l then Some at else path_from (suc at) ps l
