-- The notes of a node. Plumtree keeps one list of announcements: for each message that is missing, the nodes that
-- announced it (Leitão, Pereira, Rodrigues, SRDS 2007). A timer runs for each id whose message is waited for.
use Rattle.std.specs.Prelude.{◌≡◌, ℕ, Bool, IsTrue, false, not, List, [], ◌∷◌, ◌++◌, ◌==◌, map as each, filter}
use Rattle.std.specs.Prelude.{slice_get, if◌then◌else◌, Option}
use Rattle.std.specs.FinSet as set
use Rattle.std.specs.List.{AllByRecursion}
use Rattle.std.specs.Ordering.{eq_by_cmp, is_lt}
use Rattle.ov_ids.specs.Members.{IsDistinct, Ordered}
use Rattle.ov_ids.specs.Sets.{has}
use Rattle.ov_ids.specs.declared.id.MsgId.{MsgId}
use Rattle.ov_plum.specs.Ids.{id_cmp}

-- a note: the id of a message that is missing, and a node that announced it
abbrev pub Note : Type 0
Note = MsgId × ℕ

-- whether a note is of this id
abbrev pub is_of : MsgId → Note → Bool
is_of id note = eq_by_cmp id_cmp id note.0

-- whether a note is of a greater id
abbrev pub is_after : MsgId → Note → Bool
is_after id note = is_lt (id_cmp id note.0)

-- the nodes that announced this message, the oldest note first
abbrev pub senders : MsgId → List Note → List ℕ
senders id notes = each (λ n. n.1) (filter (is_of id) notes)

-- the sender of the oldest note of this id, if there is one
abbrev pub oldest : MsgId → List Note → Option ℕ
oldest id notes = slice_get (senders id notes) 0

-- The notes after s announced this message. Its note is put after all notes whose id is not greater, unless it is there
-- already. The order among different ids is chosen here: Plumtree leaves it open, and only the order among the notes of
-- one id matters.
abbrev pub noting : ℕ → MsgId → List Note → List Note
noting s id notes =
    if has (senders id notes) s then notes
    else filter (λ n. not (is_after id n)) notes ++ (id, s) ∷ filter (is_after id) notes

-- the notes without those of this id
abbrev pub without_notes_of : MsgId → List Note → List Note
without_notes_of id notes = filter (λ n. not (is_of id n)) notes

-- the notes without the oldest one of this id
abbrev pub without_oldest : MsgId → List Note → List Note
without_oldest id [] = []
without_oldest id (n ∷ notes) = if is_of id n then notes else n ∷ without_oldest id notes

-- the notes without those by x
abbrev pub without_notes_by : ℕ → List Note → List Note
without_notes_by x notes = filter (λ n. not (n.1 == x)) notes

-- The notes of smaller ids come first. Nobody is noted twice for one id. The timer of each note's id runs.
pub record AreNotes (notes : List Note) (running : set.FinSet id_cmp) : Type 0 where
  pub ordered : Ordered (λ m n. is_after n.0 m ≡ false) notes
  pub once : (id : MsgId) → IsDistinct (senders id notes)
  pub run : AllByRecursion (λ n. IsTrue (set.contains running n.0)) notes
