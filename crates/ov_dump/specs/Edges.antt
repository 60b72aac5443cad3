-- Dumps as lines of two names, each of which lists the other.
use Rattle.std.specs.Prelude.{◌≡◌, ◌⊎◌, ⊤, ℕ, List, [], ◌∷◌}
use Rattle.std.specs.List.{flat_map}
use Rattle.ov_lines.specs.Lines.{kept_lines}
use Rattle.ov_dump.specs.FirstEntries.{AreFirsts}
use Rattle.ov_dump.specs.declared.dump_and_graph_types.Dump.{Dump}
use Rattle.ov_dump.specs.declared.dump_and_graph_types.HostEntry.{HostEntry}
use Rattle.ov_dump.specs.declared.dump_and_graph_types.Listing.{Listing}
use Rattle.ov_dump.specs.EdgeLines.{IsBlankLine, IsEdge, IsReadable, IsWhy}
use Rattle.ov_dump.specs.declared.reading_fault.DumpReadFault.{DumpReadFault}
use Rattle.ov_dump.specs.declared.reading_fault.DumpReadFault.TheVariants.{UnreadLine}
use Rattle.ov_dump.specs.declared.reading_fault.DumpReadFault.TheVariants.{OutOfMemory}
use Rattle.ov_dump.specs.declared.unread_edge_line_reason.Why.{Why}

-- two names, and the number of their line
pub record Edge : Type 0 where
  pub line : ℕ
  pub a : List ℕ
  pub b : List ℕ

-- these lines, each with its number, say these edges, in order
abbrev pub SayEdges : List (ℕ × List ℕ) → List Edge → Type 0
SayEdges [] edges = edges ≡ []
SayEdges (line ∷ more) edges =
    (IsBlankLine line.1 × SayEdges more edges)
    ⊎ ((a b : List ℕ) × (rest : List Edge) × IsEdge line.1 a b
    × (edges ≡ record { line = line.0; a = a; b = b } ∷ rest) × SayEdges more rest)

-- each end lists the other
abbrev pub listings_of : Edge → List Listing
listings_of e = record { at = e.line; from = e.a; to = e.b } ∷ record { at = e.line; from = e.b; to = e.a } ∷ []

-- the ends, each as an entry on the line of the edge
abbrev pub ends_of : Edge → List HostEntry
ends_of e = record { at = e.line; name = e.a } ∷ record { at = e.line; name = e.b } ∷ []

-- a file of these bytes says this dump: each end of an edge has one entry, at its first line, and each end lists the
-- other
pub record SaysEdges (bytes : List ℕ) (d : Dump) : Type 0 where
  pub edges : List Edge
  pub said : SayEdges (kept_lines bytes) edges
  pub entries : AreFirsts [] (flat_map ends_of edges) d.entries
  pub listings : d.listings ≡ flat_map listings_of edges

-- the first of these lines that can't be read has this number, and can't be read for this reason
abbrev pub IsUnreadAt : List (ℕ × List ℕ) → ℕ → Why → Type 0
IsUnreadAt [] n why = ⊥
IsUnreadAt (line ∷ more) n why =
    ((¬ IsReadable line.1) × (n ≡ line.0) × IsWhy line.1 why) ⊎ (IsReadable line.1 × IsUnreadAt more n why)

-- why a file of these bytes says no dump
abbrev pub IsEdgesFault : List ℕ → DumpReadFault → Type 0
IsEdgesFault bytes (UnreadLine line why) = IsUnreadAt (kept_lines bytes) line why
IsEdgesFault bytes OutOfMemory = ⊤
IsEdgesFault bytes other = ⊥
