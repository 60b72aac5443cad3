-- The limits of the options of growing, which its numbers' types have. All of them are chosen here.
use Rattle.std.specs.Prelude.{ℕ, ◌≤◌}

-- a number within these limits
abbrev pub IsWithin : ℕ → ℕ → ℕ → Type 0
IsWithin low high number = (low ≤ number) × (number ≤ high)

-- the most nodes that may join: as many as may be born in a large world
abbrev pub most_nodes : ℕ
most_nodes = 32768

-- so many nodes may join
abbrev pub MayBeGrown : ℕ → Type 0
MayBeGrown nodes = IsWithin 1 most_nodes nodes

-- the largest chance, of 100
abbrev pub most_of_hundred : ℕ
most_of_hundred = 100

-- the largest share that may crash, or be repeated, of 100
abbrev pub most_share : ℕ
most_share = 99

-- the most rounds of shuffles in a phase, and the most broadcasts after a snapshot
abbrev pub most_rounds : ℕ
most_rounds = 1000

-- the most turns between two births
abbrev pub most_turns : ℕ
most_turns = 65536
