-- When lines are due that tell how far something has come. Times are in milliseconds since the beginning, and are
-- chosen here.
use Rattle.std.specs.Prelude.{ℕ, ◌+◌, min}

-- when the first line is due
abbrev pub first_due : ℕ
first_due = 1000

-- when the next line is due after one at this time. The last time that a clock can tell is 2^64 - 1
abbrev pub next_due : ℕ → ℕ
next_due now = min (now + 500) 18446744073709551615
