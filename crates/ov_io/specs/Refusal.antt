-- What programs print of a fault that has a number.
use Rattle.std.specs.Prelude.{ℕ, List, ◌++◌, codes, decimal}

-- the text of a refusal
abbrev pub refusal_text : ℕ → List ℕ
refusal_text number = codes "refused " ++ decimal number
