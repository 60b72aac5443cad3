-- A list of paths while it is built.
use Rattle.std.specs.Prelude.{ℕ, List}

-- the paths so far, and the ids of the path that is begun
pub record Building : Type 0 where
  pub paths : List (List ℕ)
  pub begun : List ℕ
