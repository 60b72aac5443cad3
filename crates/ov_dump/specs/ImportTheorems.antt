-- Theorems about the names in an imported file.
use Rattle.std.specs.Prelude.{◌≡◌, ◌↔◌, ℕ, List, IsUtf8}
use Rattle.ov_dump.specs.Dumps.{IsNameOf}
use Rattle.ov_dump.specs.declared.dump_and_graph_types.Choice.{Choice}
use Rattle.ov_dump.specs.declared.dump_and_graph_types.Dump.{Dump}
use Rattle.ov_graphfile.specs.NameLines.{NameSaid, AreNamesOf}
use Rattle.ov_graphfile.specs.NamesState.{NamesState, IsNamed}
use Rattle.ov_dump.specs.Importing.{IsImportOf}
use Rattle.ov_dump.specs.ShownNames.{shown_text}

-- no two names are shown alike
abbrev pub OneShownName : Type 0
OneShownName = (a b : List ℕ) → IsUtf8 a → IsUtf8 b → shown_text a ≡ shown_text b → a ≡ b

-- s is what the name of the node n is shown as
abbrev pub IsShownNameOf : List (List ℕ) → ℕ → List ℕ → Type 0
IsShownNameOf names n s = (a : List ℕ) × IsNameOf names n a × (s ≡ shown_text a)

-- the file that is made of a dump gives each node the name that the dump gives it, as it is shown, and gives no other
-- names
abbrev pub NamesComeBack : Type 0
NamesComeBack =
    (choice : Choice) (d : Dump) (text : List ℕ) (import : IsImportOf choice d text) (n : ℕ) (s : List ℕ)
    → NameSaid text n s ↔ IsShownNameOf import.names n s

-- so who reads the names of such a file finds these names, and no others
abbrev pub NamesAreRead : Type 0
NamesAreRead =
    (choice : Choice) (d : Dump) (text : List ℕ) (import : IsImportOf choice d text) (names : NamesState)
    → AreNamesOf text import.graph names → (n : ℕ) (s : List ℕ)
    → IsNamed names n s ↔ IsShownNameOf import.names n s

-- no two nodes of such a file have one name
abbrev pub NamesDiffer : Type 0
NamesDiffer =
    (choice : Choice) (d : Dump) (text : List ℕ) → IsImportOf choice d text → (m n : ℕ) (s : List ℕ)
    → NameSaid text m s → NameSaid text n s → m ≡ n
