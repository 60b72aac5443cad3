-- Numbers that are ids.
use Rattle.std.specs.Prelude.{ℕ, ◌<◌, List}
use Rattle.std.specs.List.{AllByRecursion}
use Rattle.ov_ids.specs.Limits.{number_limit}

-- each of these numbers is an id
abbrev pub AreIds : List ℕ → Type 0
AreIds = AllByRecursion (λ n. n < number_limit)
