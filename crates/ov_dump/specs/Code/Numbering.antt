-- The nodes of the names, and who lists whom by nodes.
use Rattle.std.specs.Prelude.{◌≡◌, ◌↔◌, ◌⊎◌, ℕ, suc, ◌<◌, ◌≤◌, ◌*◌, ◌%◌, nat_le, if◌then◌else◌, List, length, slice_get}
use Rattle.std.specs.Prelude.{◌≢◌, slice_index, Some, MatchOption, nat_eq}
use Rattle.std.specs.Cmp.Lexicographic.{pointwise}
use Rattle.std.specs.HashMap.{HashMap, get}
use Rattle.ov_ids.specs.Members.{Has, Ordered}
use Rattle.ov_graph.specs.Links.{IsLink, most_nodes, most_of_any_graph}
use Rattle.ov_dump.specs.Dumps.{IsNameOf, ends_of, key_of, numbers}
use Rattle.ov_dump.specs.declared.dump_and_graph_types.Listing.{Listing}
use Rattle.ov_dump.specs.declared.node_numbering.Numbering.{Numbering}

-- the place of `count` names that has this key, where such a place has a name
abbrev pub place_of_key : ℕ → ℕ → ℕ
place_of_key count key = if nat_le count most_nodes then key else (key * 29459) % 32768

-- the places of `count` names with keys below this one, in ascending order of their keys
pub record AreByKey (count key : ℕ) (places : List ℕ) : Type 0 where
  pub each : (p : ℕ) → Has places p ↔ ((p < count) × (key_of count p < key))
  pub ascend : Ordered (λ p q. key_of count p < key_of count q) places

-- of the nodes at `count` places, node 1 is at the first place of `order`, node 2 at the second, and so on
pub record AreNodesAt (count : ℕ) (order nodes : List ℕ) : Type 0 where
  pub len : length nodes ≡ count
  pub each : (q p : ℕ) → slice_get order q ≡ Some p → slice_index nodes p ≡ suc q

-- a map has each name at a place below `end` with the id at that place, and no other name
abbrev pub AreByName : {S : Type 0} → List (List ℕ) → List ℕ → ℕ → HashMap (List ℕ) ℕ S → Type 0
AreByName sorted ids end nodes =
    (a : List ℕ) → MatchOption (get (pointwise nat_eq) nodes a) ((p : ℕ) → p < end → slice_get sorted p ≢ Some a)
    (λ i. (p : ℕ) × (p < end) × (slice_get sorted p ≡ Some a) × (i ≡ slice_index ids p))

-- no two names are the same, and there are no more than a graph may have. The map has the node of each name
pub record IsNumbering (n : Numbering) : Type 0 where
  pub differ : Ordered (λ a b. a ≢ b) n.names.items
  pub few : length n.names.items ≤ most_of_any_graph
  pub nodes : (a : List ℕ) → MatchOption (get (pointwise nat_eq) n.nodes a) (¬ Has n.names.items a)
      (λ i. IsNameOf n.names.items i a)

-- the name of node i lists that of node j
abbrev pub NodeLists : List (List ℕ) → List Listing → ℕ → ℕ → Type 0
NodeLists names listings i j =
    (a b : List ℕ) × IsNameOf names i a × IsNameOf names j b × Has (ends_of listings) (a, b)

-- node i lists node j, as two lists of pairs say, the lower node first: `up` has those whose lower node lists the
-- higher
-- one, and `down` those whose higher node lists the lower one
abbrev pub Follows : List (ℕ × ℕ) → List (ℕ × ℕ) → ℕ → ℕ → Type 0
Follows up down i j = ((i < j) × Has up (i, j)) ⊎ ((j < i) × Has down (j, i))

-- each pair may be a link of the nodes of these names
abbrev pub AreUpward : List (List ℕ) → List (ℕ × ℕ) → Type 0
AreUpward names pairs = (l : ℕ × ℕ) → Has pairs l → IsLink (numbers (length names)) l

-- the pair has these two nodes, the lower one first
abbrev pub IsPairOf : ℕ → ℕ → ℕ × ℕ → Type 0
IsPairOf a b l = (l.0 < l.1) × (((l.0 ≡ a) × (l.1 ≡ b)) ⊎ ((l.0 ≡ b) × (l.1 ≡ a)))

-- a list of pairs may have got one more, that of these two nodes
abbrev pub GainsPair : ℕ → ℕ → List (ℕ × ℕ) → List (ℕ × ℕ) → Type 0
GainsPair a b old new = (l : ℕ × ℕ) → Has new l → (Has old l ⊎ IsPairOf a b l)
