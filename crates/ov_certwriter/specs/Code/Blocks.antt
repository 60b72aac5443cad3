-- The texts of entries, put piece by piece into memory that is there before, and how much of it they need at most.
use Rattle.std.specs.Prelude.{◌≡◌, ◌≤◌, ◌<◌, ◌+◌, ◌-◌, ◌*◌, ◌^◌, ◌++◌, ◌||◌, ℕ, Bool, true, nat_lt, List, [], ◌∷◌}
use Rattle.std.specs.Prelude.{length, take, drop, slice_index_or}
use Rattle.std.specs.List.{All}
use Rattle.serde_json.specs.Data.{Data}
use Rattle.serde_json.specs.Written.{comma_if, compact_text}
use Rattle.ov_certwriter.specs.declared.entry_blocks.Block.{Block}

-- These bytes were put into memory that was there, beginning at a place. If there was room for them all, they stand
-- there now, behind what stood in front of that place, and before the place `end`. The memory is as long as before.
pub record Puts (bytes old : List ℕ) (at : ℕ) (new : List ℕ) (end : ℕ) : Type 0 where
  pub kept : length new ≡ length old
  pub fits : at + length bytes ≤ length old → (end ≡ at + length bytes) × (take end new ≡ take at old ++ bytes)

-- the most bytes that the texts of these paths need, each with a comma: at most ten digits and a comma an id
abbrev pub texts_room : List (List ℕ) → ℕ
texts_room [] = 0
texts_room (path ∷ paths) = (11 * length path + 3) + texts_room paths

-- the most bytes that an entry with these paths needs, with a comma before it
abbrev pub entry_room : List (List ℕ) → ℕ
entry_room paths = 43 + texts_room paths

-- the most bytes that these entries need, each with a comma
abbrev pub entries_room : {X : Type 0} → (X → List (List ℕ)) → List X → ℕ
entries_room paths_of [] = 0
entries_room paths_of (x ∷ xs) = entry_room (paths_of x) + entries_room paths_of xs

-- no entry needs more bytes than this
abbrev pub AreWithin : {X : Type 0} → (X → List (List ℕ)) → ℕ → List X → Type 0
AreWithin paths_of room [] = Unit {0}
AreWithin paths_of room (x ∷ xs) = (entry_room (paths_of x) ≤ room) × AreWithin paths_of room xs

-- each of these numbers is one that no entry of its part of a list needs more bytes than, if each part has so many
-- entries. The largest number that fits a `usize` may be too small.
abbrev pub AreRoomsOf : {X : Type 0} → (X → List (List ℕ)) → ℕ → List X → List ℕ → Type 0
AreRoomsOf paths_of size xs rooms =
    (place d : ℕ) → place < length rooms → slice_index_or rooms place d < 2 ^ 64 - 1
    → AreWithin paths_of (slice_index_or rooms place d) (take size (drop (place * size) xs))

-- the texts of these items, with a comma before each but the first; before the first too, if items stand before
abbrev pub items_after : {X : Type 0} → (X → Data) → Bool → List X → List ℕ
items_after as_data later [] = []
items_after as_data later (x ∷ xs) = comma_if later ++ (compact_text (as_data x) ++ items_after as_data true xs)

-- the text that a block holds
abbrev pub block_text : Block → List ℕ
block_text block = take block.filled block.memory.items

-- each of these blocks has room for so many bytes
abbrev pub HaveRoom : ℕ → List Block → Type 0
HaveRoom bytes blocks = All (λ block. bytes ≤ length block.memory.items) blocks

-- each of these blocks holds the texts of the items of its part of a list, if each part has so many items
abbrev pub HoldParts : {X : Type 0} → (X → Data) → ℕ → Bool → List X → List Block → Type 0
HoldParts as_data size later xs blocks =
    (place : ℕ) (d : Block) → place < length blocks → block_text (slice_index_or blocks place d)
    ≡ items_after as_data (nat_lt 0 place || later) (take size (drop (place * size) xs))
