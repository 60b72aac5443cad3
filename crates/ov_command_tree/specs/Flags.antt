-- What the text of a flag says.
use Rattle.std.specs.Prelude.{ℕ, Bool, false, List, Option, Some, None, codes}
use Rattle.std.specs.Str.{bytes_eq}

-- whether the text of a flag says that it is there
abbrev pub is_flagged : Option (List ℕ) → Bool
is_flagged None = false
is_flagged (Some text) = bytes_eq text (codes "true")
