-- The dump that statements of a DOT file say.
use Rattle.std.specs.Prelude.{◌≡◌, ◌⊎◌, ℕ, List, [], ◌∷◌, map}
use Rattle.std.specs.List.{flat_map}
use Rattle.std.specs.Str.{IsUtf8}
use Rattle.ov_ids.specs.Members.{Has}
use Rattle.ov_dump.specs.FirstEntries.{AreFirsts}
use Rattle.ov_dump.specs.declared.dump_and_graph_types.Dump.{Dump}
use Rattle.ov_dump.specs.declared.dump_and_graph_types.HostEntry.{HostEntry}
use Rattle.ov_dump.specs.declared.dump_and_graph_types.Listing.{Listing}
use Rattle.ov_dot.specs.Tokens.{Lexeme}
use Rattle.ov_dot.specs.Names.{text_of}
use Rattle.ov_dot.specs.Sayings.{Said}

-- a name has an entry, in the line where it stands
abbrev pub entry_of : Lexeme → HostEntry
entry_of t = record { at = t.line; name = text_of t }

-- a name lists another, in the line where it stands
abbrev pub listing_of : Lexeme × Lexeme → Listing
listing_of pair = record { at = pair.0.line; from = text_of pair.0; to = text_of pair.1 }

-- the dump has one entry for each name that is to have one, where it first stands, and the listings
pub record IsDumpOf (said : Said) (dump : Dump) : Type 0 where
  pub entries : AreFirsts [] (map entry_of said.entries) dump.entries
  pub listings : dump.listings ≡ map listing_of said.listings

-- the names that lists or are listed
abbrev pub both_ends : List (Lexeme × Lexeme) → List Lexeme
both_ends pairs = flat_map (λ pair. pair.0 ∷ pair.1 ∷ []) pairs

-- some name in this line, which has an entry or lists or is listed, is not in UTF-8
abbrev pub HasBadName : Said → ℕ → Type 0
HasBadName said line =
    (t : Lexeme) × (Has said.entries t ⊎ Has (both_ends said.listings) t) × (line ≡ t.line) × ¬ IsUtf8 (text_of t)
