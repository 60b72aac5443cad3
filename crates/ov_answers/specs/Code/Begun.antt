-- How texts grow.
use Rattle.std.specs.Prelude.{◌≡◌, ℕ, List, ◌++◌}

-- the text got more bytes at its end, of which P holds
abbrev pub Gains : (List ℕ → Type 0) → List ℕ → List ℕ → Type 0
Gains P old new = (more : List ℕ) × P more × (new ≡ old ++ more)
