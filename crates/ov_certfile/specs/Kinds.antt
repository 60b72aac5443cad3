-- The versions and the verdicts of files, and the keys of each.
use Rattle.std.specs.Prelude.{◌==◌, ℕ, Bool, true, false, List, [], ◌∷◌, ◌++◌, map, codes, nat_le, is_some}
use Rattle.std.specs.Prelude.{if◌then◌else◌, Option, Some, None}
use Rattle.serde_json.specs.Data.{Data}
use Rattle.serde_json.specs.Find.{as_str}
use Rattle.ov_graph.specs.Links.{most_nodes, most_of_any_graph}
use Rattle.ov_ids.specs.Options.{◌>>=◌}
use Rattle.ov_certfile.specs.Common.{are_same}
use Rattle.ov_certfile.specs.Keys.{said}
use Rattle.ov_certfile.specs.Forms.{whole_in, count_in, moment_in, id_in, ids_in, links_in, paths_in, pairs_in, fans_in}
use Rattle.ov_certfile.specs.declared.file_keys.Key.{Key}
use Rattle.ov_certfile.specs.declared.file_keys.Key.TheVariants as key
use Rattle.ov_certfile.specs.declared.version.Version.{Version}
use Rattle.ov_certfile.specs.declared.version.Version.TheVariants.{One, Two, Three}
use Rattle.ov_certfile.specs.declared.linked_or_split.Verdict.{Verdict}
use Rattle.ov_certfile.specs.declared.linked_or_split.Verdict.TheVariants.{Linked, Split}

-- the number of a version
abbrev pub version_number : Version → ℕ
version_number One = 1
version_number Two = 2
version_number Three = 3

-- the version with this number
abbrev pub version_numbered : ℕ → Option Version
version_numbered n =
    if n == 1 then Some One else (if n == 2 then Some Two else (if n == 3 then Some Three else None))

-- a version: the whole number 1, 2 or 3
abbrev pub version_in : Data → Option Version
version_in d = whole_in d >>= version_numbered

-- the version with this number, if files of it are read where this is the newest version that is read
abbrev pub version_read : Version → ℕ → Option Version
version_read newest n = if nat_le n (version_number newest) then version_numbered n else None

-- a version that is read
abbrev pub version_up_to : Version → Data → Option Version
version_up_to newest d = whole_in d >>= version_read newest

-- whether files of this version name their group; version 1 is of the group of all nodes
abbrev pub names_group : Version → Bool
names_group One = false
names_group Two = true
names_group Three = true

-- the highest number of nodes in a file of version 1
abbrev pub most_nodes_of_one : ℕ
most_nodes_of_one = 256

-- the highest number of nodes in a file of this version: 256 in version 1, 1,024 in version 2, and in version 3 as many
-- as any graph may have, 32,768
abbrev pub most_nodes_of : Version → ℕ
most_nodes_of One = most_nodes_of_one
most_nodes_of Two = most_nodes
most_nodes_of Three = most_of_any_graph

-- the text of a verdict
abbrev pub verdict_text : Verdict → List ℕ
verdict_text Linked = codes "linked"
verdict_text Split = codes "split"

-- the verdict with this text
abbrev pub verdict_named : List ℕ → Option Verdict
verdict_named s =
    if are_same s (codes "linked") then Some Linked else (if are_same s (codes "split") then Some Split else None)

-- a verdict: the text "linked" or "split"
abbrev pub verdict_in : Data → Option Verdict
verdict_in d = as_str d >>= verdict_named

-- the name of a key in a file
abbrev pub name_of : Key → List ℕ
name_of key.K = codes "k"
name_of key.Links = codes "links"
name_of key.Moment = codes "moment"
name_of key.Nodes = codes "nodes"
name_of key.Verdict = codes "verdict"
name_of key.Version = codes "version"
name_of key.Group = codes "group"
name_of key.Cut = codes "cut"
name_of key.Near = codes "near"
name_of key.Far = codes "far"
name_of key.Side = codes "side"
name_of key.Pairs = codes "pairs"
name_of key.Fans = codes "fans"
name_of key.I = codes "i"
name_of key.J = codes "j"
name_of key.Paths = codes "paths"

-- the names of these keys
abbrev pub names_of : List Key → List (List ℕ)
names_of keys = map name_of keys

-- the moment in the value, in the form of its version; None if it lacks a version
abbrev pub moment_said : Data → Option ℕ
moment_said d = said version_in (codes "version") d >>= λ version. said (moment_in version) (codes "moment") d

-- whether the value has a key, and there a value of the key's form
abbrev pub has_form : Data → Key → Bool
has_form d key.K = is_some (said count_in (codes "k") d)
has_form d key.Links = is_some (said links_in (codes "links") d)
has_form d key.Moment = is_some (moment_said d)
has_form d key.Nodes = is_some (said ids_in (codes "nodes") d)
has_form d key.Verdict = is_some (said verdict_in (codes "verdict") d)
has_form d key.Version = is_some (said version_in (codes "version") d)
has_form d key.Group = is_some (said ids_in (codes "group") d)
has_form d key.Cut = is_some (said ids_in (codes "cut") d)
has_form d key.Near = is_some (said id_in (codes "near") d)
has_form d key.Far = is_some (said id_in (codes "far") d)
has_form d key.Side = is_some (said ids_in (codes "side") d)
has_form d key.Pairs = is_some (said pairs_in (codes "pairs") d)
has_form d key.Fans = is_some (said fans_in (codes "fans") d)
has_form d key.I = is_some (said id_in (codes "i") d)
has_form d key.J = is_some (said id_in (codes "j") d)
has_form d key.Paths = is_some (said paths_in (codes "paths") d)

-- the keys that every file has
abbrev pub common_keys : List Key
common_keys = key.K ∷ key.Links ∷ key.Moment ∷ key.Nodes ∷ key.Verdict ∷ key.Version ∷ []

-- the keys that only some versions have: the group, if the version names it
abbrev pub version_keys : Version → List Key
version_keys version = if names_group version then key.Group ∷ [] else []

-- the keys that only this verdict has: for split the cut, its side and the entries
abbrev pub verdict_keys : Verdict → List Key
verdict_keys Linked = []
verdict_keys Split = key.Cut ∷ key.Near ∷ key.Far ∷ key.Side ∷ key.Pairs ∷ key.Fans ∷ []

-- the keys of a file of this version and verdict
abbrev pub keys_of : Version → Verdict → List Key
keys_of version verdict = common_keys ++ (version_keys version ++ verdict_keys verdict)
