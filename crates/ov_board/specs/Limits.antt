-- The limit of numbers of pieces.
use Rattle.std.specs.Prelude.{ℕ, ◌^◌}

-- as many numbers as a board or a desk may share out are below this. With one for each worker beyond them they fit 64
-- bits. The choice is this project's
abbrev pub piece_limit : ℕ
piece_limit = 2 ^ 62
