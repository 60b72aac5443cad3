-- How the parts of a list in blocks fit together.
use Rattle.std.specs.Prelude.{◌≡◌, ℕ, ◌+◌, ◌-◌, ◌*◌, ◌<◌, ◌≤◌, ◌^◌, ◌⊎◌, List, ◌++◌, length}
use Rattle.std.specs.List.{AllByRecursion}
use Rattle.ov_lists.specs.Code.Blocks.{Filled, block_size, joined, IsWhole, IsSpare}
use Rattle.ov_lists.specs.Code.Dense.{AreDense, sizes}

-- the items of a list: those of the full blocks, then those of the last one
abbrev pub items_of : {T : Type 0} → List (Filled T) → Filled T → List T
items_of full last = joined full ++ last.items

-- for how many more items there is memory, in the last block and in the spare ones
abbrev pub room_of : {T : Type 0} → Filled T → List (Filled T) → ℕ
room_of last spare = last.capacity - length last.items + block_size * length spare

-- the parts of a list: full blocks, room for how many of them, the last block, spare blocks, room for how many of them,
-- and how many items there are before the last block
pub record AreKept {T : Type 0} (full : List (Filled T)) (full_room : ℕ) (last : Filled T) (spare : List (Filled T))
    (spare_room before_last : ℕ) : Type 0 where
  pub whole : AllByRecursion IsWhole full
  pub dense : AreDense (sizes full)
  pub empty : AllByRecursion IsSpare spare
  pub last_whole : (last.capacity ≡ 0) ⊎ (last.capacity ≡ block_size)
  pub last_fits : length last.items ≤ last.capacity
  pub full_fits : length full + length spare ≤ full_room
  pub spare_fits : length full + length spare ≤ spare_room
  pub few : block_size * (length full + length spare + 1) < 2 ^ 64
  pub counted : before_last ≡ length (joined full)
