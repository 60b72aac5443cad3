-- What Plumtree keeps at a node (Leitão, Pereira, Rodrigues, SRDS 2007).
use Rattle.std.specs.Prelude.{ℕ, ◌+◌, ◌≤◌, Bool, ◌||◌, List, [], length, if◌then◌else◌}
use Rattle.std.specs.FinMap as map
use Rattle.std.specs.FinSet as set
use Rattle.ov_ids.specs.Sets.{IsSet, IsIn, has, adding, without}
use Rattle.ov_plum.specs.Ids.{id_cmp}
use Rattle.ov_plum.specs.Notes.{Note, AreNotes}

-- how many neighbours a node may have: chosen here
abbrev pub most_neighbours : ℕ
most_neighbours = 64

-- how many broadcasts a node may make: chosen here
abbrev pub most_broadcasts : ℕ
most_broadcasts = 4096

-- the last round, which two bytes hold: chosen here
abbrev pub most_rounds : ℕ
most_rounds = 65535

-- A node's neighbours as two sets: whole messages go at once to the eager ones, and to the lazy ones it is only
-- announced that there is a message
pub record BranchesState : Type 0 where
  pub eager : List ℕ
  pub lazy : List ℕ

-- both are sets, have no member in common, and have at most 64 members together
pub record AreBranches (b : BranchesState) : Type 0 where
  pub eager_set : IsSet b.eager
  pub lazy_set : IsSet b.lazy
  pub apart : (x : ℕ) → IsIn b.eager x → ¬ IsIn b.lazy x
  pub few : length b.eager + length b.lazy ≤ most_neighbours

-- whether x is a neighbour
abbrev pub is_linked : BranchesState → ℕ → Bool
is_linked b x = has b.eager x || has b.lazy x

-- x becomes a neighbour: it is eager
abbrev pub up : ℕ → BranchesState → BranchesState
up x b = record { eager = adding x b.eager; lazy = without x b.lazy }

-- x is no longer a neighbour
abbrev pub down : ℕ → BranchesState → BranchesState
down x b = record { eager = without x b.eager; lazy = without x b.lazy }

-- s is eager from now on, if it is a neighbour
abbrev pub makes_eager : ℕ → BranchesState → BranchesState
makes_eager s b = if has b.lazy s then up s b else b

-- s is lazy from now on, if it is a neighbour
abbrev pub makes_lazy : ℕ → BranchesState → BranchesState
makes_lazy s b = if has b.eager s then record { eager = without s b.eager; lazy = adding s b.lazy } else b

-- a message that is held: the round with which the node sends it on, and its payload
pub record HeldState : Type 0 where
  pub round : ℕ
  pub payload : List ℕ

-- The node and its neighbours; the messages that it holds; the notes of messages that are missing; the ids whose timers
-- run; and the number of the node's next broadcast
pub record PlumState : Type 0 where
  pub me : ℕ
  pub branches : BranchesState
  pub held : map.FinMap id_cmp HeldState
  pub notes : List Note
  pub running : set.FinSet id_cmp
  pub made : ℕ

-- a node without neighbours that has seen no message
abbrev pub newborn_plum : ℕ → PlumState
newborn_plum me = record {
  me = me;
  branches = record { eager = []; lazy = [] };
  held = map.empty;
  notes = [];
  running = set.empty;
  made = 0;
}

-- the invariant of a node's part of Plumtree
pub record IsPlum (t : PlumState) : Type 0 where
  pub branches : AreBranches t.branches
  pub notes : AreNotes t.notes t.running
  pub made : t.made ≤ most_broadcasts
