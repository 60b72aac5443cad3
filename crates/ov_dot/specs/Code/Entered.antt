-- Entries that are appended one after another.
use Rattle.std.specs.Prelude.{ℕ, Bool, List, [], ◌∷◌, ◌++◌, nat_eq, if◌then◌else◌}
use Rattle.std.specs.List.{list_any}
use Rattle.std.specs.Cmp.Lexicographic.{pointwise}
use Rattle.ov_dump.specs.declared.dump_and_graph_types.HostEntry.{HostEntry}
use Rattle.ov_dot.specs.Tokens.{Lexeme}
use Rattle.ov_dot.specs.Names.{text_of}
use Rattle.ov_dot.specs.Dumps.{entry_of}

-- one of these entries has the name
abbrev pub has_entry : List ℕ → List HostEntry → Bool
has_entry name entries = list_any (λ entry. pointwise nat_eq name entry.name) entries

-- the entries, and then of these names those that have none yet: so a name has one entry, where it first stands
unfoldable pub entries_with : List HostEntry → List Lexeme → List HostEntry
entries_with entries [] = entries
entries_with entries (t ∷ ts) =
    entries_with (if has_entry (text_of t) entries then entries else entries ++ entry_of t ∷ []) ts
