-- How a list of ids is printed.
use Rattle.std.specs.Prelude.{ℕ, List, [], ◌∷◌, codes, decimal}
use Rattle.std.specs.List.{join_by}

-- the ids with commas between them, or a dash if there are none
abbrev pub ids_text : List ℕ → List ℕ
ids_text [] = codes "-"
ids_text (a ∷ rest) = join_by decimal (codes ",") (a ∷ rest)
