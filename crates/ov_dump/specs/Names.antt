-- The order of names. A name is the list of its bytes, in UTF-8.
use Rattle.std.specs.Prelude.{◌≡◌, ℕ, List}
use Rattle.std.specs.Cmp.Lexicographic.{slice_cmp}
use Rattle.std.specs.Ordering.{nat_cmp}
use Rattle.std.specs.declared.cmp.Ordering.TheVariants.{Less}

-- a comes before b: byte by byte, as words in a dictionary
abbrev pub ComesBefore : List ℕ → List ℕ → Type 0
ComesBefore a b = slice_cmp nat_cmp a b ≡ Less
