-- How many there are of a kind.
use Rattle.std.specs.Prelude.{◌≡◌, ◌↔◌, ℕ, List, length}
use Rattle.ov_ids.specs.Members.{Has, Ascends}

-- count is the number of those for which P holds, which are `all`, in ascending order
pub record IsNumberOf (P : ℕ → Type 0) (count : ℕ) : Type 0 where
  pub all : List ℕ
  pub ascend : Ascends all
  pub each : (x : ℕ) → Has all x ↔ P x
  pub counted : length all ≡ count
