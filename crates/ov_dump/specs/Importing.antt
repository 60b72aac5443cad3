-- What is written when a dump is imported.
use Rattle.std.specs.Prelude.{◌≡◌, ℕ, List, map, Option, Result, Ok, Err, IsUtf8}
use Rattle.std.specs.Io.KnownBytes.{Appends}
use Rattle.std.specs.List.{AllByRecursion}
use Rattle.ov_io.specs.Device.{AppendsPrefixOf}
use Rattle.ov_graph.specs.Links.{LinkGraph, IsWithinLimit}
use Rattle.ov_graphfile.specs.GraphTexts.{named_graph_text}
use Rattle.ov_dump.specs.Dumps.{IsGraphOf}
use Rattle.ov_dump.specs.Faults.{IsDumpFault, IsSound, number_of}
use Rattle.ov_dump.specs.declared.dump_and_graph_types.Choice.{Choice}
use Rattle.ov_dump.specs.declared.dump_and_graph_types.Dump.{Dump}
use Rattle.ov_dump.specs.ShownNames.{shown_text}
use Rattle.ov_dump.specs.declared.refusal_or_write_fault.ImportFault.{ImportFault}
use Rattle.ov_dump.specs.declared.refusal_or_write_fault.ImportFault.TheVariants.{Refused, Write, OutOfMemory}

-- the number of each fault
abbrev pub import_number : ImportFault → ℕ
import_number (Refused fault) = number_of fault
import_number Write = 72
import_number OutOfMemory = 99

-- the text is the graph file of the graph that follows from a dump without fault, with the names of its nodes, each of
-- which is UTF-8. There is one such text at most, by `OneGraph` of ov_dump
pub record IsImportOf (choice : Choice) (d : Dump) (text : List ℕ) : Type 0 where
  pub graph : LinkGraph
  pub names : List (List ℕ)
  pub sound : IsSound d
  pub follows : IsGraphOf choice d graph names
  pub within : IsWithinLimit graph
  pub utf8 : AllByRecursion IsUtf8 names
  pub written : text ≡ named_graph_text graph (map shown_text names)

-- what a writer took: all of that text; a prefix of it, if writing failed; and nothing, if no graph follows from the
-- dump or memory ran out
abbrev pub WasImported : {W : Type 0} → Choice → Dump → (W → Option (List ℕ)) → W → W
    → Result (Unit {0}) ImportFault → Type 0
WasImported choice d contents old new (Ok done) =
    (text : List ℕ) × IsImportOf choice d text × Appends (contents old) (contents new) text
WasImported choice d contents old new (Err Write) =
    (text : List ℕ) × IsImportOf choice d text × AppendsPrefixOf text (contents old) (contents new)
WasImported choice d contents old new (Err (Refused fault)) = IsDumpFault choice d fault × (new ≡ old)
WasImported choice d contents old new (Err OutOfMemory) = new ≡ old
