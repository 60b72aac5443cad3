-- Where the pieces of a level stand among all pieces: a level has columns, one for each place of a second member, in
-- which its pairs are, and then its fans.
use Rattle.std.specs.Prelude.{◌≡◌, ℕ, ◌+◌, ◌-◌, ◌≤◌, length}
use Rattle.ov_even.specs.Code.Levels.{levels_behind, pairs_among}
use Rattle.ov_crew.specs.declared.ascending_piece_lookup.Column.{Column}

-- how many nodes the graph and how many members the group has
pub record GroupSizes : Type 0 where
  pub nodes : ℕ
  pub members : ℕ

-- c is a column of its level for groups of m members: it says how many pieces the lower levels have, and how many
-- pairs of the level come before the column. If `before` is the level, no pair comes after these
pub record IsColumn (m : ℕ) (c : Column) : Type 0 where
  pub low : 1 ≤ c.level
  pub lower : c.first ≡ length (levels_behind m 0 (c.level - 1))
  pub some : 1 ≤ c.before
  pub among : c.before ≤ c.level
  pub pairs : c.start ≡ pairs_among c.before

-- and the piece with this number is not before the column
pub record IsReached (m number : ℕ) (c : Column) : Type 0 where
  pub column : IsColumn m c
  pub not_before : c.first + c.start ≤ number
