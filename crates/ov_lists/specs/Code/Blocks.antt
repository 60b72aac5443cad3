-- How a list is kept in blocks.
use Rattle.std.specs.Prelude.{◌≡◌, ℕ, ◌≤◌, List, [], length}
use Rattle.std.specs.List.{flat_map}

-- how many items a block has room for
abbrev pub block_size : ℕ
block_size = 128

-- the items of a block in order, and for how many items it has memory in all
pub record Filled (T : Type 0) : Type 0 where
  pub items : List T
  pub capacity : ℕ

-- the items of the blocks, one block after another
abbrev pub joined : {T : Type 0} → List (Filled T) → List T
joined blocks = flat_map (λ b. b.items) blocks

-- the block has memory for `block_size` items
abbrev pub IsWhole : {T : Type 0} → Filled T → Type 0
IsWhole b = (b.capacity ≡ block_size) × (length b.items ≤ block_size)

-- the block is empty, and has memory for `block_size` items
abbrev pub IsSpare : {T : Type 0} → Filled T → Type 0
IsSpare b = (b.capacity ≡ block_size) × (b.items ≡ [])
