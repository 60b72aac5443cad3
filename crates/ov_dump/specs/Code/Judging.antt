-- One entry after those whose names were seen, and one listing.
use Rattle.std.specs.Prelude.{◌≡◌, ◌⊎◌, ⊤, ℕ, List, []}
use Rattle.ov_ids.specs.Members.{Has}
use Rattle.ov_dump.specs.declared.dump_and_graph_types.HostEntry.{HostEntry}
use Rattle.ov_dump.specs.declared.dump_and_graph_types.Listing.{Listing}
use Rattle.ov_dump.specs.declared.graph_making_fault.DumpFault.{DumpFault}
use Rattle.ov_dump.specs.declared.graph_making_fault.DumpFault.TheVariants.{NameTwice, EmptyName, OutOfMemory}

-- what is wrong with an entry behind these names
abbrev pub EntryFails : List (List ℕ) → HostEntry → DumpFault → Type 0
EntryFails seen e (EmptyName at) = (at ≡ e.at) × (e.name ≡ [])
EntryFails seen e (NameTwice at name) = (at ≡ e.at) × (name ≡ e.name) × Has seen e.name
EntryFails seen e OutOfMemory = ⊤
EntryFails seen e other = ⊥

-- what is wrong with a listing
abbrev pub ListingFails : Listing → DumpFault → Type 0
ListingFails l (EmptyName at) = (at ≡ l.at) × ((l.from ≡ []) ⊎ (l.to ≡ []))
ListingFails l other = ⊥
