-- Why no graph follows from a dump. The entries of a dump come first in its order, and then its listings.
use Rattle.std.specs.Prelude.{◌≡◌, ◌≢◌, ◌↔◌, ◌⊎◌, ⊤, ℕ, List, [], ◌∷◌, ◌++◌, map, length}
use Rattle.std.specs.Prelude.{if◌then◌else◌}
use Rattle.std.specs.List.{flat_map}
use Rattle.ov_ids.specs.Members.{Has, Ordered}
use Rattle.ov_graph.specs.Links.{most_of}
use Rattle.ov_dump.specs.Dumps.{names_of}
use Rattle.ov_dump.specs.Names.{ComesBefore}
use Rattle.ov_dump.specs.declared.dump_and_graph_types.Choice.{Choice}
use Rattle.ov_dump.specs.declared.dump_and_graph_types.Dump.{Dump}
use Rattle.ov_dump.specs.declared.dump_and_graph_types.HostEntry.{HostEntry}
use Rattle.ov_dump.specs.declared.dump_and_graph_types.Listing.{Listing}
use Rattle.ov_dump.specs.declared.graph_making_fault.DumpFault.{DumpFault}
use Rattle.ov_dump.specs.declared.graph_making_fault.DumpFault.TheVariants.{NameTwice, EmptyName}
use Rattle.ov_dump.specs.declared.graph_making_fault.DumpFault.TheVariants.{TooManyNodes, OutOfMemory}

-- the number of each fault. 80 and 82 are chosen here
abbrev pub number_of : DumpFault → ℕ
number_of (NameTwice at name) = 80
number_of (EmptyName at) = 82
number_of (TooManyNodes at name most) = 31
number_of OutOfMemory = 99

-- ---- a dump without fault

-- entries are sound: no name is empty, and no two are the same
pub record AreSoundEntries (entries : List HostEntry) : Type 0 where
  pub named : (e : HostEntry) → Has entries e → e.name ≢ []
  pub differ : Ordered (λ m n. m ≢ n) (names_of entries)

-- a listing is sound: no name is empty. They may be one name, since who lists itself is linked to nobody by that
pub record IsSoundListing (l : Listing) : Type 0 where
  pub lists : l.from ≢ []
  pub listed : l.to ≢ []

-- each of these listings is sound
abbrev pub AreSoundListings : List Listing → Type 0
AreSoundListings listings = (l : Listing) → Has listings l → IsSoundListing l

-- the dump is sound: its entries and its listings are
abbrev pub IsSound : Dump → Type 0
IsSound d = AreSoundEntries d.entries × AreSoundListings d.listings

-- ---- the first that is not sound

-- e is an entry, and those before it are sound
abbrev pub IsNextEntry : List HostEntry → List HostEntry → HostEntry → Type 0
IsNextEntry entries before e = (after : List HostEntry) × (entries ≡ before ++ e ∷ after) × AreSoundEntries before

-- l is a listing, and those before it are sound
abbrev pub IsNextListing : List Listing → Listing → Type 0
IsNextListing listings l = (before after : List Listing) × (listings ≡ before ++ l ∷ after) × AreSoundListings before

-- what is wrong with the first entry that is not sound
abbrev pub IsEntryFlaw : List HostEntry → DumpFault → Type 0
IsEntryFlaw entries (EmptyName at) =
    (before : List HostEntry) × (e : HostEntry) × IsNextEntry entries before e × (at ≡ e.at) × (e.name ≡ [])
IsEntryFlaw entries (NameTwice at name) =
    (before : List HostEntry) × (e : HostEntry) × IsNextEntry entries before e × (at ≡ e.at) × (name ≡ e.name)
    × Has (names_of before) name
IsEntryFlaw entries other = ⊥

-- what is wrong with the first listing that is not sound
abbrev pub IsListingFlaw : List Listing → DumpFault → Type 0
IsListingFlaw listings (EmptyName at) =
    (l : Listing) × IsNextListing listings l × (at ≡ l.at) × ((l.from ≡ []) ⊎ (l.to ≡ []))
IsListingFlaw listings other = ⊥

-- what is wrong with the first entry or listing of a dump that is not sound
abbrev pub IsFlaw : Dump → DumpFault → Type 0
IsFlaw d fault = IsEntryFlaw d.entries fault ⊎ (AreSoundEntries d.entries × IsListingFlaw d.listings fault)

-- ---- too many names

-- a name, and the place that it has in the dump
abbrev pub Naming : Type 0
Naming = ℕ × List ℕ

-- the names that entries have
abbrev pub entry_namings : List HostEntry → List Naming
entry_namings entries = map (λ e. (e.at, e.name)) entries

-- the names that a listing has
abbrev pub listing_namings : Listing → List Naming
listing_namings l = (l.at, l.from) ∷ (l.at, l.to) ∷ []

-- the names that are taken from a dump, in its order: one for each time that it is named
abbrev pub namings : Choice → Dump → List Naming
namings choice d =
    entry_namings d.entries ++ (if choice.entries_only then [] else flat_map listing_namings d.listings)

-- with these names taken, the next one is one too many for a graph of at most `most` nodes: `kept` are the different
-- ones among them, as many as the graph may have, and the next one is another
pub record IsOneTooMany (most : ℕ) (before : List Naming) (name : List ℕ) (kept : List (List ℕ)) : Type 0 where
  pub ascend : Ordered ComesBefore kept
  pub each : (n : List ℕ) → Has kept n ↔ Has (map (λ m. m.1) before) n
  pub full : length kept ≡ most
  pub another : ¬ Has kept name

-- the first of these names that is one too many for a graph of at most `most` nodes
abbrev pub IsBeyond : ℕ → List Naming → Naming → Type 0
IsBeyond most all next = (before after : List Naming) × (all ≡ before ++ next ∷ after)
    × (kept : List (List ℕ)) × IsOneTooMany most before next.1 kept

-- ---- the fault

-- no graph follows from the dump, and this is why: what is wrong with the first entry or listing that is not sound; if
-- all are sound, the first name too many, with the limit of the choice; or out of memory
abbrev pub IsDumpFault : Choice → Dump → DumpFault → Type 0
IsDumpFault choice d (TooManyNodes at name most) =
    IsSound d × (most ≡ most_of choice.limit) × IsBeyond most (namings choice d) (at, name)
IsDumpFault choice d OutOfMemory = ⊤
IsDumpFault choice d other = IsFlaw d other
