-- The forms of the values in a file. A form maps a JSON value to what it means, or to None if the value does not have
-- the form. The forms are a choice of this project.
use Rattle.std.specs.Prelude.{◌+◌, ◌-◌, ℕ, List, [], ◌∷◌, nat_lt, codes, if◌then◌else◌, Option, Some, None}
use Rattle.ov_ids.specs.Limits.{number_limit, longest_journal}
use Rattle.serde_json.specs.Data.{Data, Items, no_items, item}
use Rattle.serde_json.specs.Find.{as_number, as_u64, as_array}
use Rattle.ov_cert.specs.declared.cert.PairPaths.{PairPaths}
use Rattle.ov_cert.specs.declared.cert.FanPaths.{FanPaths}
use Rattle.ov_ids.specs.Options.{◌>>=◌}
use Rattle.ov_certfile.specs.Keys.{has_just, said}
use Rattle.ov_certfile.specs.declared.version.Version.{Version}
use Rattle.ov_certfile.specs.declared.version.Version.TheVariants.{One, Two, Three}

-- the highest moment in versions 1 and 2: no journal of the profile's scale has an entry of a higher number
abbrev pub last_moment : ℕ
last_moment = longest_journal

-- the highest moment in a file of this version; in version 3 each number of 32 bits is one
abbrev pub last_moment_of : Version → ℕ
last_moment_of One = last_moment
last_moment_of Two = last_moment
last_moment_of Three = number_limit - 1

-- a whole number that is not negative, written without fraction and exponent
abbrev pub whole_in : Data → Option ℕ
whole_in d = as_number d >>= as_u64

-- a whole number below a limit
abbrev pub whole_below : ℕ → Data → Option ℕ
whole_below limit d = whole_in d >>= λ n. if nat_lt n limit then Some n else None

-- k, a number of nodes
abbrev pub count_in : Data → Option ℕ
count_in d = whole_below number_limit d

-- a moment in a file of this version: the number of the entry of the journal to which the graph belongs, or 0 if the
-- graph comes from no journal
abbrev pub moment_in : Version → Data → Option ℕ
moment_in version d = whole_below (last_moment_of version + 1) d

-- an id
abbrev pub id_in : Data → Option ℕ
id_in d = whole_below number_limit d

-- the items of an array, in order, each in this form; None if some item does not have it
abbrev pub each_in : {X : Type 0} → (Data → Option X) → Items → Option (List X)
each_in form no_items = Some []
each_in form (item d ds) = form d >>= λ x. each_in form ds >>= λ xs. Some (x ∷ xs)

-- an array whose items all have this form
abbrev pub list_in : {X : Type 0} → (Data → Option X) → Data → Option (List X)
list_in form d = as_array d >>= each_in form

-- an array of ids
abbrev pub ids_in : Data → Option (List ℕ)
ids_in d = list_in id_in d

-- the two items of a list of exactly two
abbrev pub both_of : List ℕ → Option (ℕ × ℕ)
both_of [] = None
both_of (a ∷ []) = None
both_of (a ∷ b ∷ []) = Some (a, b)
both_of (a ∷ b ∷ c ∷ rest) = None

-- a link: an array of exactly two ids
abbrev pub link_in : Data → Option (ℕ × ℕ)
link_in d = ids_in d >>= both_of

-- an array of links
abbrev pub links_in : Data → Option (List (ℕ × ℕ))
links_in d = list_in link_in d

-- paths: an array of arrays of ids
abbrev pub paths_in : Data → Option (List (List ℕ))
paths_in d = list_in ids_in d

-- the entry of a pair: an object with its two nodes and its paths, and no other key
unfoldable pub pair_in : Data → Option PairPaths
pair_in d = if has_just (codes "i" ∷ codes "j" ∷ codes "paths" ∷ []) d then (
    said id_in (codes "i") d >>= λ i.
    said id_in (codes "j") d >>= λ j.
    said paths_in (codes "paths") d >>= λ paths.
    Some (record { i = i; j = j; paths = paths })) else None

-- the entry of a fan: an object with its node and its paths, and no other key
unfoldable pub fan_in : Data → Option FanPaths
fan_in d = if has_just (codes "j" ∷ codes "paths" ∷ []) d then (
    said id_in (codes "j") d >>= λ j.
    said paths_in (codes "paths") d >>= λ paths.
    Some (record { j = j; paths = paths })) else None

-- an array of entries of pairs
abbrev pub pairs_in : Data → Option (List PairPaths)
pairs_in d = list_in pair_in d

-- an array of entries of fans
abbrev pub fans_in : Data → Option (List FanPaths)
fans_in d = list_in fan_in d
