-- What `overlay picture` prints. Of the picture's text only its place and its format are said here.
use Rattle.std.specs.Prelude.{◌≡◌, ◌≢◌, ◌⊎◌, ℕ, Bool, true, false, ⊤, List, ◌++◌, codes, Option, Some, None, Result}
use Rattle.std.specs.Prelude.{Ok, Err}
use Rattle.std.specs.Io.KnownBytes.{Appends}
use Rattle.ov_arguments.specs.declared.import_and_picture_requests.AskedEntry.{AskedEntry}
use Rattle.ov_arguments.specs.declared.import_and_picture_requests.AskedEntry.TheVariants as asked
use Rattle.ov_cert.specs.Number as cert
use Rattle.ov_certfile.specs.Number as certificate_file
use Rattle.ov_certfile.specs.declared.reading.Filed.{Filed}
use Rattle.ov_certfile.specs.declared.version.Version.TheVariants.{Two}
use Rattle.ov_check.specs.Outcome.{IsOutcome, status_of}
use Rattle.ov_check.specs.declared.outcome_of_file_bytes.Outcome.{Outcome}
use Rattle.ov_check.specs.declared.outcome_of_file_bytes.Outcome.TheVariants.{Holds, Fails, Refused as refused}
use Rattle.ov_graph.specs.Links.{LinkGraph}
use Rattle.ov_graph.specs.declared.size_limit.SizeLimit.TheVariants.{Usual}
use Rattle.ov_graphfile.specs.Faults as graph_file
use Rattle.ov_graphfile.specs.GraphFiles.{IsGraphFile, IsGraphFileFault}
use Rattle.ov_graphfile.specs.declared.fault.GraphFileFault.{GraphFileFault}
use Rattle.ov_graphfile.specs.declared.fault.GraphFileFault.TheVariants as graph_file_fault
use Rattle.ov_io.specs.Device.{AppendsPrefixOf}
use Rattle.ov_drawing.specs.Chosen.{shown_paths}
use Rattle.ov_drawing.specs.declared.chosen_entry.ChosenEntry.{ChosenEntry}
use Rattle.ov_drawing.specs.declared.chosen_entry.ChosenEntry.TheVariants.{Pair, Fan}
use Rattle.ov_commands.specs.declared.conversion_fault.ConversionFault.{ConversionFault}
use Rattle.ov_commands.specs.declared.conversion_fault.ConversionFault.TheVariants.{Refused, Write, OutOfMemory}

-- the entry of a certificate that is asked for
abbrev pub chosen_entry : Option AskedEntry → Option ChosenEntry
chosen_entry None = None
chosen_entry (Some (asked.Pair i j)) = Some (Pair i j)
chosen_entry (Some (asked.Fan j)) = Some (Fan j)

-- the file that names the nodes, if there is one, says this graph
abbrev pub NamesGraph : Option (List ℕ) → LinkGraph → Type 0
NamesGraph None g = ⊤
NamesGraph (Some file) g = IsGraphFile file g

-- ---- the faults

-- the number of the fault of an outcome, and 0 if its certificate holds
abbrev pub outcome_number : Outcome → ℕ
outcome_number (Holds f) = 0
outcome_number (Fails f fault) = cert.number_of fault
outcome_number (refused r) = certificate_file.number_of r.fault

-- no certificate holds in the bytes, and this is the number of their fault: the first one of the file, or that of its
-- certificate
abbrev pub HoldsNot : List ℕ → ℕ → Type 0
HoldsNot bytes number = (o : Outcome) × IsOutcome Two bytes o × (status_of o ≡ 1) × (number ≡ outcome_number o)

-- the file that names the nodes of g is refused, with this number: it is no graph file of up to
-- 1,024 nodes, or says another graph (87)
abbrev pub NamesNot : Option (List ℕ) → LinkGraph → ℕ → Type 0
NamesNot None g number = ⊥
NamesNot (Some file) g number =
    ((fault : GraphFileFault) × (fault ≢ graph_file_fault.OutOfMemory) × IsGraphFileFault Usual file fault
    × (number ≡ graph_file.number_of fault))
    ⊎ ((other : LinkGraph) × IsGraphFile file other × (other ≢ g) × (number ≡ 87))

-- a picture is refused with this number: no certificate holds in the bytes; or it does not have the entry (86); or else
-- the file with names is refused
abbrev pub IsPictureRefused : List ℕ → Option (List ℕ) → Option ChosenEntry → ℕ → Type 0
IsPictureRefused bytes names entry number =
    HoldsNot bytes number
    ⊎ ((f : Filed) × IsOutcome Two bytes (Holds f) × (((shown_paths f.cert entry ≡ None) × (number ≡ 86))
    ⊎ ((shown_paths f.cert entry ≢ None) × NamesNot names f.graph number)))

-- ---- the picture

-- the text of a picture ends as its format does: DOT, if that is asked for, with a brace, and SVG with the end of its
-- outermost element
abbrev pub EndsAsAsked : Bool → List ℕ → Type 0
EndsAsAsked true text = (before : List ℕ) × (text ≡ before ++ codes "}\n")
EndsAsAsked false text = (before : List ℕ) × (text ≡ before ++ codes "</svg>\n")

-- a picture is drawn: a certificate holds in the bytes, it has the entry, and the file with names says its graph
pub record IsDrawable (bytes : List ℕ) (names : Option (List ℕ)) (entry : Option ChosenEntry) : Type 0 where
  pub file : Filed
  pub holds : IsOutcome Two bytes (Holds file)
  pub has_entry : shown_paths file.cert entry ≢ None
  pub named : NamesGraph names file.graph

-- what a writer took of a picture: a text in the format that is asked for, or a prefix of one if writing failed; and
-- nothing, if the picture is refused or memory ran out
abbrev pub WasPicturePrinted : {W : Type 0} → List ℕ → Option (List ℕ) → Option ChosenEntry → Bool
    → (W → Option (List ℕ)) → W → W → Result (Unit {0}) ConversionFault → Type 0
WasPicturePrinted bytes names entry dot contents old new (Ok done) =
    IsDrawable bytes names entry
    × ((text : List ℕ) × EndsAsAsked dot text × Appends (contents old) (contents new) text)
WasPicturePrinted bytes names entry dot contents old new (Err Write) =
    IsDrawable bytes names entry
    × ((text : List ℕ) × EndsAsAsked dot text × AppendsPrefixOf text (contents old) (contents new))
WasPicturePrinted bytes names entry dot contents old new (Err (Refused number)) =
    IsPictureRefused bytes names entry number × (new ≡ old)
WasPicturePrinted bytes names entry dot contents old new (Err OutOfMemory) = new ≡ old
