-- A list in blocks, as its callers see it.
use Rattle.std.specs.Prelude.{ℕ, List}

-- the items of a list in order, how many more it can take in without an allocation, and how many blocks it has at which
-- a take-out may have to look
pub record Listed (T : Type 0) : Type 0 where
  pub items : List T
  pub room : ℕ
  pub blocks : ℕ
