-- The notes and the running timers as the code keeps them: a map from each id whose timer runs to the senders of its
-- notes, the oldest first.
use Rattle.std.specs.Prelude.{ℕ, List, [], ◌∷◌, ◌++◌, map as each}
use Rattle.std.specs.FinMap as map
use Rattle.std.specs.FinSet as set
use Rattle.ov_ids.specs.declared.id.MsgId.{MsgId}
use Rattle.ov_plum.specs.Ids.{id_cmp}
use Rattle.ov_plum.specs.PlumState.{BranchesState, HeldState, PlumState}
use Rattle.ov_plum.specs.Notes.{Note, noting, without_notes_of, without_oldest, without_notes_by}

-- the notes, and the ids whose timers run
pub record WaitingState : Type 0 where
  pub notes : List Note
  pub running : set.FinSet id_cmp

-- the notes of these entries, one entry after another
abbrev pub notes_among : List (MsgId × List ℕ) → List Note
notes_among [] = []
notes_among (e ∷ es) = each (λ s. (e.0, s)) e.1 ++ notes_among es

-- what is in a map of senders
unfoldable pub waiting_in : map.FinMap id_cmp (List ℕ) → WaitingState
waiting_in m = record { notes = notes_among (map.entries m); running = set.from_list (map.keys m) }

-- nothing is waited for
abbrev pub none_waited : WaitingState
none_waited = record { notes = []; running = set.empty }

-- s is noted, and the timer runs
abbrev pub waiting_noted : ℕ → MsgId → WaitingState → WaitingState
waiting_noted s id w = record { notes = noting s id w.notes; running = set.insert w.running id }

-- the oldest note of an id goes
abbrev pub waiting_asked : MsgId → WaitingState → WaitingState
waiting_asked id w = record w { notes = without_oldest id w.notes }

-- the notes of an id go, and its timer stops
abbrev pub waiting_cleared : MsgId → WaitingState → WaitingState
waiting_cleared id w = record { notes = without_notes_of id w.notes; running = set.remove w.running id }

-- the notes by x go
abbrev pub waiting_forgot : ℕ → WaitingState → WaitingState
waiting_forgot x w = record w { notes = without_notes_by x w.notes }

-- what a node keeps, from what its type keeps
abbrev pub plum_of : ℕ → BranchesState → map.FinMap id_cmp HeldState → WaitingState → ℕ → PlumState
plum_of me branches held w made = record {
  me = me;
  branches = branches;
  held = held;
  notes = w.notes;
  running = w.running;
  made = made;
}
