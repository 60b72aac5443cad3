-- Parts of a file as code takes them, and what a part of the reading returns.
use Rattle.std.specs.Prelude.{◌≡◌, ◌↔◌, ◌⊎◌, ⊤, ℕ, Bool, true, nat_eq, List, [], ◌∷◌, ◌++◌, if◌then◌else◌, Option, Some}
use Rattle.std.specs.Prelude.{None, Result, Ok, Err}
use Rattle.ov_ids.specs.Members.{Has}
use Rattle.json.specs.Json.{Json, array, object, Items, Members}
use Rattle.ov_dump.specs.declared.dump_and_graph_types.Dump.{Dump}
use Rattle.ov_dump.specs.declared.dump_and_graph_types.HostEntry.{HostEntry}
use Rattle.ov_dump.specs.EdgeLines.{IsBlankLine, IsEdge, IsReadable, IsWhy, before_mark, is_blank, is_name_byte}
use Rattle.ov_dump.specs.Views.{LacksView, SayDump}
use Rattle.ov_dump.specs.declared.edge_line.EdgeLine.{EdgeLine}
use Rattle.ov_dump.specs.declared.views_reading.Listed.{Listed}
use Rattle.ov_dump.specs.declared.views_reading.Listed.TheVariants.{Nobody, Peer, NoName}
use Rattle.ov_dump.specs.declared.edge_line.EdgeLine.TheVariants.{Blank, Edge, Unread}
use Rattle.ov_dump.specs.declared.reading_fault.DumpReadFault.{DumpReadFault}
use Rattle.ov_dump.specs.declared.reading_fault.DumpReadFault.TheVariants.{NotViews, NoView, UnreadLine}
use Rattle.ov_dump.specs.declared.reading_fault.DumpReadFault.TheVariants.{OutOfMemory}

-- ---- views

-- the items of a list
abbrev pub as_items : Json → Option Items
as_items (array js) = Some js
as_items other = None

-- the members of an object
abbrev pub as_members : Json → Option Members
as_members (object ms) = Some ms
as_members other = None

-- the names that an item lists, as they were read
abbrev pub names_read : Listed → Option (List (List ℕ))
names_read Nobody = Some []
names_read (Peer name) = Some (name.now ∷ [])
names_read NoName = None

-- the entry of this number and name is no list of names
abbrev pub FailsAt : ℕ → List ℕ → Option (List (List ℕ)) → DumpReadFault → Type 0
FailsAt at name said (NoView entry wrong) = (entry ≡ at) × (wrong ≡ name) × (said ≡ None)
FailsAt at name said OutOfMemory = ⊤
FailsAt at name said other = ⊥

-- one of these members is no list of names
abbrev pub FailsFrom : ℕ → Members → DumpReadFault → Type 0
FailsFrom at ms (NoView entry wrong) = LacksView at ms entry wrong
FailsFrom at ms OutOfMemory = ⊤
FailsFrom at ms other = ⊥

-- of a value that is no object
abbrev pub IsNoObject : Option Members → DumpReadFault → Type 0
IsNoObject None fault = fault ≡ NotViews
IsNoObject (Some ms) fault = FailsFrom 1 ms fault

-- what a value says
abbrev pub IsDumpIn : Option Members → Dump → Type 0
IsDumpIn None d = ⊥
IsDumpIn (Some ms) d = SayDump 1 ms d

abbrev pub DumpOf : Json → Result Dump DumpReadFault → Type 0
DumpOf v (Ok d) = IsDumpIn (as_members v) d
DumpOf v (Err fault) = IsNoObject (as_members v) fault

-- ---- lines

-- what is left of a text behind the bytes at its beginning that pass
abbrev pub behind : (ℕ → Bool) → List ℕ → List ℕ
behind p [] = []
behind p (b ∷ rest) = if p b then behind p rest else b ∷ rest

-- the bytes at the beginning of a text that pass
abbrev pub front_of : (ℕ → Bool) → List ℕ → List ℕ
front_of p [] = []
front_of p (b ∷ rest) = if p b then b ∷ front_of p rest else []

-- the text without a comma, if it begins with one
abbrev pub behind_comma : List ℕ → List ℕ
behind_comma [] = []
behind_comma (b ∷ rest) = if nat_eq b 44 then rest else b ∷ rest

-- the text without what may stand between two names, if it begins so
abbrev pub behind_gap : List ℕ → List ℕ
behind_gap text = behind is_blank (behind_comma (behind is_blank text))

-- the text of a line, behind blanks
abbrev pub text_of : List ℕ → List ℕ
text_of line = behind is_blank (before_mark true line)

-- behind the first name and what may follow it
abbrev pub next_of : List ℕ → List ℕ
next_of line = behind_gap (behind is_name_byte (text_of line))

-- behind the second name
abbrev pub end_of : List ℕ → List ℕ
end_of line = behind is_name_byte (next_of line)

-- behind the second name and blanks
abbrev pub last_of : List ℕ → List ℕ
last_of line = behind is_blank (end_of line)

abbrev pub first_name : List ℕ → List ℕ
first_name line = front_of is_name_byte (text_of line)

abbrev pub second_name : List ℕ → List ℕ
second_name line = front_of is_name_byte (next_of line)

-- what a line says is what was read of it
abbrev pub WasRead : List ℕ → EdgeLine → Type 0
WasRead line Blank = IsBlankLine line
WasRead line (Edge a b) = IsEdge line a.now b.now
WasRead line Unread = ¬ IsReadable line

-- the line with this number can't be read, and why
abbrev pub FailsAtLine : ℕ → List ℕ → DumpReadFault → Type 0
FailsAtLine at line (UnreadLine n why) = (n ≡ at) × IsWhy line why
FailsAtLine at line OutOfMemory = ⊤
FailsAtLine at line other = ⊥

-- ---- edges

-- an entry is added to those so far, unless its name was seen
abbrev pub TakesEntry : List (List ℕ) → List HostEntry → HostEntry → List (List ℕ) → List HostEntry → Type 0
TakesEntry seen entries e seen' entries' =
    (Has seen e.name × (seen' ≡ seen) × (entries' ≡ entries))
    ⊎ ((¬ Has seen e.name) × ((n : List ℕ) → Has seen' n ↔ ((e.name ≡ n) ⊎ Has seen n))
    × (entries' ≡ entries ++ e ∷ []))

-- two entries are added so, one after the other
abbrev pub TakesEnds : List (List ℕ) → List HostEntry → HostEntry → HostEntry → List (List ℕ) → List HostEntry → Type 0
TakesEnds seen entries e f seen' entries' = (mid : List (List ℕ)) × (between : List HostEntry)
    × TakesEntry seen entries e mid between × TakesEntry mid between f seen' entries'
