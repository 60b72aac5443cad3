-- How a list of entries is said.
use Rattle.std.specs.Prelude.{ℕ, ◌-◌, ◌==◌, nat_le, List, [], ◌∷◌, ◌++◌, codes, decimal, if◌then◌else◌}

-- a pair among those that are named
abbrev pub pair_text : ℕ → ℕ → List ℕ
pair_text i j = 32 ∷ (decimal i ++ 44 ∷ decimal j)

-- what ends the names of so many entries: how many more there are than the ten that are named, and a bracket; nothing
-- if there are no entries
abbrev pub end_text : ℕ → List ℕ
end_text count =
    if count == 0 then []
    else (if nat_le count 10 then codes ")"
    else codes " and " ++ (decimal (count - 10) ++ codes " more)"))
