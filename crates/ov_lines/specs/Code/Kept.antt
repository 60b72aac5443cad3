-- The lines of a file that are left to read.
use Rattle.std.specs.Prelude.{ℕ, ◌+◌, List}
use Rattle.std.specs.Str.Lines.{lines}
use Rattle.ov_lines.specs.Lines.{kept_from}

-- the lines of these bytes that are not skipped, each with its number. This many lines come before these bytes
unfoldable pub lines_left : ℕ → List ℕ → List (ℕ × List ℕ)
lines_left count bytes = kept_from (count + 1) (lines bytes)
