-- The ids of a copy: keys of the places of nodes. Places count the nodes of a graph from 0, in the order of ids. Places
-- stand in another order too, and the rank of a place, counted from 0, is where it stands in that.
use Rattle.std.specs.Prelude.{◌≡◌, ◌↔◌, ◌<◌, ◌≤◌, ◌*◌, ◌%◌, ℕ, List, length, map, slice_index, slice_index_or}
use Rattle.ov_ids.specs.Members.{Has, Ascends, Ordered}
use Rattle.ov_ids.specs.Sets.{count_below}
use Rattle.ov_graph.specs.Links.{LinkGraph, Precedes}
use Rattle.ov_graph.specs.Neighbours.{AreLinkedAt}
use Rattle.ov_graph.specs.Row.{HasBit}

-- the key of a rank: it goes on by 20,251 with each rank, modulo 32,768
unfoldable pub key_of : ℕ → ℕ
key_of rank = (rank * 20251) % 32768

-- the rank that has this key
unfoldable pub rank_of_key : ℕ → ℕ
rank_of_key key = (key * 29459) % 32768

-- the place of this rank. Each entry of an order is a number, and a place
abbrev pub place_at : List (ℕ × ℕ) → ℕ → ℕ
place_at order rank = (slice_index_or order rank (0, 0)).1

-- the order has n entries, each of a place below n, and every such place
pub record IsOrder (n : ℕ) (order : List (ℕ × ℕ)) : Type 0 where
  pub count : length order ≡ n
  pub within : (e : ℕ × ℕ) → Has order e → e.1 < n
  pub all : (p : ℕ) → p < n → (number : ℕ) × Has order (number, p)

-- place p has the key of a rank of its own
abbrev pub HasKeyOfRank : List (ℕ × ℕ) → List ℕ → ℕ → Type 0
HasKeyOfRank order keys p =
    (rank : ℕ) × (rank < length order) × (place_at order rank ≡ p) × (slice_index keys p ≡ key_of rank)

-- there is a key for each place, which is that of its rank
pub record AreKeysOf (order : List (ℕ × ℕ)) (keys : List ℕ) : Type 0 where
  pub count : length keys ≡ length order
  pub each : (p : ℕ) → p < length order → HasKeyOfRank order keys p

-- of the places of the graph, the set has those whose keys are `key` or above
abbrev pub HasKeysFrom : LinkGraph → List ℕ → ℕ → List ℕ → Type 0
HasKeysFrom g keys key set = (q : ℕ) → q < length g.nodes → HasBit set q ↔ (key ≤ slice_index keys q)

-- j is the key of place q, and above that of place p, and the nodes at both places are linked
pub record IsKeyAbove (g : LinkGraph) (keys : List ℕ) (p q j : ℕ) : Type 0 where
  pub linked : AreLinkedAt g p q
  pub key : slice_index keys q ≡ j
  pub above : slice_index keys p < j

-- those keys above that of place p, of neighbours of its node, whose places are below `end`
abbrev pub AreSomeAbove : LinkGraph → List ℕ → ℕ → ℕ → List ℕ → Type 0
AreSomeAbove g keys p end found = (j : ℕ) → Has found j ↔ ((q : ℕ) × (q < end) × IsKeyAbove g keys p q j)

-- all keys above that of place p, of neighbours of its node, ascending
pub record AreKeysAbove (g : LinkGraph) (keys : List ℕ) (p : ℕ) (found : List ℕ) : Type 0 where
  pub ascend : Ascends found
  pub each : (j : ℕ) → Has found j ↔ ((q : ℕ) × IsKeyAbove g keys p q j)

-- a link from one key to each of these
abbrev pub linked_to : ℕ → List ℕ → List (ℕ × ℕ)
linked_to key above = map (λ j. (key, j)) above

-- the keys of the ends of a link of the graph, the lower one first
abbrev pub IsLinkByKey : LinkGraph → List ℕ → ℕ × ℕ → Type 0
IsLinkByKey g keys l =
    (p : ℕ) × (q : ℕ) × (p < length g.nodes) × (slice_index keys p ≡ l.0) × IsKeyAbove g keys p q l.1

-- those links by their keys whose lower key is below `end`, ascending
pub record AreLinksByKey (g : LinkGraph) (keys : List ℕ) (end : ℕ) (links : List (ℕ × ℕ)) : Type 0 where
  pub ascend : Ordered Precedes links
  pub each : (l : ℕ × ℕ) → Has links l ↔ ((l.0 < end) × IsLinkByKey g keys l)

-- the key of the place of a node
abbrev pub new_id : LinkGraph → List ℕ → ℕ → ℕ
new_id g keys a = slice_index keys (count_below a g.nodes)

-- the keys of these members, ascending
pub record AreIdsOf (g : LinkGraph) (keys : List ℕ) (members ids : List ℕ) : Type 0 where
  pub ascend : Ascends ids
  pub each : (i : ℕ) → Has ids i ↔ ((a : ℕ) × Has members a × (new_id g keys a ≡ i))
