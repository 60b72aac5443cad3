-- What sentences say in numbers.
use Rattle.std.specs.Prelude.{ℕ, ◌-◌, ◌==◌, nat_le, List, [], ◌++◌, codes, decimal, if◌then◌else◌}

-- which crashes part nobody, where these are the fewest that part somebody: one fewer. Of a graph that is split already
-- nothing is said
abbrev pub fewer_text : ℕ → List ℕ
fewer_text fewest =
    if fewest == 0 then codes "\n"
    else (if fewest == 1 then codes "\nit does not survive every crash of one node\n"
    else (if fewest == 2 then codes "; no single crash does\nit survives any 1 crash\n"
    else codes "; no " ++ (decimal (fewest - 1) ++ (codes " crashes do\nit survives any "
    ++ (decimal (fewest - 1) ++ codes " crashes\n")))))

-- how many of these are not told, behind the ten that are
abbrev pub more_text : ℕ → List ℕ
more_text count = if nat_le count 10 then [] else codes " and " ++ (decimal (count - 10) ++ codes " more")
