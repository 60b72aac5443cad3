-- How many workers may share out work, such as the pieces of an analysis or the overlays of a sweep.
use Rattle.std.specs.Prelude.{ℕ, ◌≤◌}

-- how many workers there may be, at most: chosen here
abbrev pub most_workers : ℕ
most_workers = 64

-- there may be this many workers
abbrev pub MayWork : ℕ → Type 0
MayWork n = (1 ≤ n) × (n ≤ most_workers)
