-- Dumps as JSON (RFC 8259): an object, in which each key is a name with an entry, and its value the list of the names
-- that it lists as its peers. A key that is there twice gives two entries. What `null` says, and which numbers are
-- names, is chosen here.
use Rattle.std.specs.Prelude.{◌≡◌, ◌≢◌, ◌⊎◌, ⊤, ℕ, ◌+◌, List, [], ◌∷◌, ◌++◌, map, IsUtf8, Option, Some, None}
use Rattle.std.specs.Prelude.{Bool, not, nat_eq, ◌||◌, if◌then◌else◌}
use Rattle.std.specs.List.{list_all}
use Rattle.json.specs.Json as json
use Rattle.json.specs.Json.{Json, number, string, array, object, Items, no_items, item}
use Rattle.json.specs.Json.{Members, no_members, member, document}
use Rattle.ov_ids.specs.Options.{◌>>=◌}
use Rattle.ov_dump.specs.declared.dump_and_graph_types.Dump.{Dump}
use Rattle.ov_dump.specs.declared.dump_and_graph_types.Listing.{Listing}
use Rattle.ov_dump.specs.declared.reading_fault.DumpReadFault.{DumpReadFault}
use Rattle.ov_dump.specs.declared.reading_fault.DumpReadFault.TheVariants.{NotJson, NotViews, NoView}
use Rattle.ov_dump.specs.declared.reading_fault.DumpReadFault.TheVariants.{OutOfMemory}

-- with this byte, `.`, `e` or `E`, the whole part of a number ends: a fraction or an exponent begins
abbrev pub ends_whole : ℕ → Bool
ends_whole b = nat_eq b 46 || (nat_eq b 101 || nat_eq b 69)

-- a number, as it is written, has no fraction and no exponent
abbrev pub is_whole : List ℕ → Bool
is_whole written = list_all (λ b. not (ends_whole b)) written

-- the names that an item lists: a text and a whole number, as it is written, are one name, and `null` is nobody
abbrev pub names_in : Json → Option (List (List ℕ))
names_in (string s) = Some (s ∷ [])
names_in (number s) = if is_whole s then Some (s ∷ []) else None
names_in json.null = Some []
names_in other = None

-- the names that these items list, if each lists some or nobody
abbrev pub listed : Items → Option (List (List ℕ))
listed no_items = Some []
listed (item v more) = names_in v >>= λ names. listed more >>= λ rest. Some (names ++ rest)

-- the names that a value lists, if it is a list of names. `null` lists nobody
abbrev pub peers : Json → Option (List (List ℕ))
peers (array js) = listed js
peers json.null = Some []
peers other = None

-- the listings of one entry
abbrev pub listings_of : ℕ → List ℕ → List (List ℕ) → List Listing
listings_of at from names = map (λ to. record { at = at; from = from; to = to }) names

-- the members of an object, of which the first has this number, say this dump
abbrev pub SayDump : ℕ → Members → Dump → Type 0
SayDump at no_members d = (d.entries ≡ []) × (d.listings ≡ [])
SayDump at (member name v more) d = (names : List (List ℕ)) × (rest : Dump) × (peers v ≡ Some names)
    × (d.entries ≡ record { at = at; name = name } ∷ rest.entries)
    × (d.listings ≡ listings_of at name names ++ rest.listings) × SayDump (at + 1) more rest

-- of these members, the first of which has this number, the first that is no list of names has this number and name
abbrev pub LacksView : ℕ → Members → ℕ → List ℕ → Type 0
LacksView at no_members entry wrong = ⊥
LacksView at (member name v more) entry wrong =
    ((peers v ≡ None) × (entry ≡ at) × (wrong ≡ name)) ⊎ ((peers v ≢ None) × LacksView (at + 1) more entry wrong)

-- the bytes are this JSON value
abbrev pub IsJson : List ℕ → Json → Type 0
IsJson bytes v = IsUtf8 bytes × (document bytes ≡ Some v)

-- a file of these bytes says this dump
abbrev pub SaysViews : List ℕ → Dump → Type 0
SaysViews bytes d = (ms : Members) × IsJson bytes (object ms) × SayDump 1 ms d

-- why a file of these bytes says no dump
abbrev pub IsViewsFault : List ℕ → DumpReadFault → Type 0
IsViewsFault bytes NotJson = (v : Json) → ¬ IsJson bytes v
IsViewsFault bytes NotViews = (v : Json) × IsJson bytes v × ((ms : Members) → v ≢ object ms)
IsViewsFault bytes (NoView entry name) = (ms : Members) × IsJson bytes (object ms) × LacksView 1 ms entry name
IsViewsFault bytes OutOfMemory = ⊤
IsViewsFault bytes other = ⊥
