-- Groups of nodes that a text names: parts with commas between them, each of which is the name or the id of one node.
-- Where a name is a numeral, each part is a name. The form is chosen here.
use Rattle.std.specs.Prelude.{◌≡◌, ◌≢◌, ◌⊎◌, ℕ, ◌<◌, ◌↔◌, List, [], length, slice_index_or, Some}
use Rattle.std.specs.List.{slice_split}
use Rattle.ov_ids.specs.Members.{Has, Ascends}
use Rattle.ov_lines.specs.Lines.{is_comma, words_of, one, short_bits}
use Rattle.ov_graphfile.specs.NamesState.{NamesState, IsNamed}
use Rattle.ov_graphfile.specs.declared.group_names_fault.GroupFault.{GroupFault}
use Rattle.ov_graphfile.specs.declared.group_names_fault.GroupFault.TheVariants.{NoSuchName, SharedName, NamedTwice}
use Rattle.ov_graphfile.specs.declared.group_names_fault.GroupFault.TheVariants.{OutOfMemory}

-- the parts of a text: what stands between its commas
abbrev pub parts_of : List ℕ → List (List ℕ)
parts_of text = slice_split is_comma text

-- the part at a place, which counts from 0
abbrev pub part_at : List (List ℕ) → ℕ → List ℕ
part_at parts i = slice_index_or parts i []

-- n has this name, and no other node has it
abbrev pub IsOnlyNamed : NamesState → List ℕ → ℕ → Type 0
IsOnlyNamed names part n = IsNamed names n part × ((m : ℕ) → IsNamed names m part → m ≡ n)

-- a text is one word, which spells the id n
abbrev pub SpellsId : List ℕ → ℕ → Type 0
SpellsId text n = one short_bits (words_of text) ≡ Some n

-- some node has a name that spells an id. Then a numeral may be meant as a name, and no part is taken for an id
abbrev pub HasNumeralName : NamesState → Type 0
HasNumeralName names = (m n : ℕ) × (name : List ℕ) × IsNamed names m name × SpellsId name n

-- no node has this name, no name is a numeral, and the part spells the id n of a node
abbrev pub SpellsNode : NamesState → List ℕ → ℕ → Type 0
SpellsNode names part n =
    ((m : ℕ) → ¬ IsNamed names m part) × (¬ HasNumeralName names) × SpellsId part n × Has names.graph.nodes n

-- the part means the node n: by its name, or else by its id
abbrev pub Means : NamesState → List ℕ → ℕ → Type 0
Means names part n = IsOnlyNamed names part n ⊎ SpellsNode names part n

-- there is a part at place i, and it means the node n
abbrev pub MeansAt : NamesState → List (List ℕ) → ℕ → ℕ → Type 0
MeansAt names parts i n = (i < length parts) × Means names (part_at parts i) n

-- no node has this name, and the part is taken for the id of none
abbrev pub IsNobodys : NamesState → List ℕ → Type 0
IsNobodys names part = ((m : ℕ) → ¬ IsNamed names m part) × ((n : ℕ) → ¬ SpellsNode names part n)

-- two different nodes have this name
abbrev pub IsShared : NamesState → List ℕ → Type 0
IsShared names part = (m n : ℕ) × (m ≢ n) × IsNamed names m part × IsNamed names n part

-- the ids are the group that these parts name: each part means a node, no two mean the same one, and these nodes are
-- the ids, ascending
pub record IsGroupNamed (names : NamesState) (parts : List (List ℕ)) (ids : List ℕ) : Type 0 where
  pub ascends : Ascends ids
  pub members : (n : ℕ) → Has ids n ↔ ((i : ℕ) × MeansAt names parts i n)
  pub each : (i : ℕ) → i < length parts → (n : ℕ) × MeansAt names parts i n
  pub once : (i j n : ℕ) → MeansAt names parts i n → MeansAt names parts j n → i ≡ j

-- why these parts name no group: the part at this place is nobody's name, or the name of two nodes, or two parts mean
-- this node; or out of memory
abbrev pub IsGroupFault : NamesState → List (List ℕ) → GroupFault → Type 0
IsGroupFault names parts (NoSuchName i) = (i < length parts) × IsNobodys names (part_at parts i)
IsGroupFault names parts (SharedName i) = (i < length parts) × IsShared names (part_at parts i)
IsGroupFault names parts (NamedTwice n) =
    (i j : ℕ) × (i ≢ j) × MeansAt names parts i n × MeansAt names parts j n
IsGroupFault names parts OutOfMemory = Unit {0}

-- the number of each fault; chosen here
abbrev pub number_of : GroupFault → ℕ
number_of (NoSuchName i) = 84
number_of (SharedName i) = 85
number_of (NamedTwice n) = 34
number_of OutOfMemory = 99
