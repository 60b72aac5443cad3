-- What `overlay import` prints.
use Rattle.std.specs.Prelude.{◌≡◌, ◌⊎◌, ℕ, List, Option, Some, None, Result, Ok, Err}
use Rattle.ov_arguments.specs.declared.import_and_picture_requests.DumpFormat.{DumpFormat}
use Rattle.ov_arguments.specs.declared.import_and_picture_requests.DumpFormat.TheVariants.{Views, Edges, Dot}
use Rattle.ov_arguments.specs.declared.import_and_picture_requests.ImportRequest.{ImportRequest}
use Rattle.ov_dot.specs.FaultNumbers as dot
use Rattle.ov_dot.specs.Readings.{SaysDump as SaysDot, IsRefused as IsDotFault}
use Rattle.ov_dot.specs.declared.fault.DotFault.TheVariants as dot_fault
use Rattle.ov_dump.specs.Faults as dump
use Rattle.ov_dump.specs.declared.dump_and_graph_types.Choice.{Choice}
use Rattle.ov_dump.specs.declared.dump_and_graph_types.Dump.{Dump}
use Rattle.ov_dump.specs.declared.graph_making_fault.DumpFault.TheVariants as dump_fault
use Rattle.ov_dump.specs.Edges.{SaysEdges, IsEdgesFault}
use Rattle.ov_dump.specs.FaultNumbers as reading
use Rattle.ov_dump.specs.Views.{SaysViews, IsViewsFault}
use Rattle.ov_dump.specs.declared.reading_fault.DumpReadFault.TheVariants as reading_fault
use Rattle.ov_lines.specs.FileKinds.{kind_of}
use Rattle.ov_lines.specs.declared.file_kinds.FileKind.{FileKind}
use Rattle.ov_lines.specs.declared.file_kinds.FileKind.TheVariants as kind
use Rattle.ov_dump.specs.Importing.{WasImported}
use Rattle.ov_dump.specs.declared.refusal_or_write_fault.ImportFault.{ImportFault}
use Rattle.ov_dump.specs.declared.refusal_or_write_fault.ImportFault.TheVariants as import
use Rattle.ov_commands.specs.Sizes.{limit_of}
use Rattle.ov_commands.specs.declared.import_command.UnreadDump.{UnreadDump}
use Rattle.ov_commands.specs.declared.import_command.UnreadDump.TheVariants as unread
use Rattle.ov_commands.specs.declared.conversion_fault.ConversionFault.{ConversionFault}
use Rattle.ov_commands.specs.declared.conversion_fault.ConversionFault.TheVariants.{Refused, Write, OutOfMemory}

-- ---- the dump

-- the form in which a file that looks so is read: what looks like nothing else is read as edges, and a file of another
-- kind in no form
abbrev pub form_of_kind : FileKind → Option DumpFormat
form_of_kind kind.Views = Some Views
form_of_kind kind.Dot = Some Dot
form_of_kind kind.Unknown = Some Edges
form_of_kind kind.Certificate = None
form_of_kind kind.Report = None
form_of_kind kind.Graph = None
form_of_kind kind.Scenario = None

-- a dump is read in this form, if in any: the one that is asked for, or else the one of what its bytes look like
abbrev pub IsForm : Option DumpFormat → List ℕ → Option DumpFormat → Type 0
IsForm (Some asked) bytes form = form ≡ Some asked
IsForm None bytes form = form ≡ form_of_kind (kind_of bytes)

-- the bytes say this dump, in this form
abbrev pub SaysDump : DumpFormat → List ℕ → Dump → Type 0
SaysDump Views bytes d = SaysViews bytes d
SaysDump Edges bytes d = SaysEdges bytes d
SaysDump Dot bytes d = SaysDot bytes d

-- the bytes say no dump in this form, for this reason
abbrev pub IsUnreadDump : DumpFormat → List ℕ → UnreadDump → Type 0
IsUnreadDump Views bytes (unread.Reading fault) = IsViewsFault bytes fault
IsUnreadDump Edges bytes (unread.Reading fault) = IsEdgesFault bytes fault
IsUnreadDump Dot bytes (unread.Dot fault) = IsDotFault bytes fault
IsUnreadDump form bytes other = ⊥

-- which names and which links are taken, and how many names
abbrev pub choice_of : ImportRequest → Choice
choice_of request = record {
  either = request.either;
  entries_only = request.entries;
  limit = limit_of request.large;
}

-- ---- the faults

-- the fault of the command for bytes that are no dump
abbrev pub number_of_unread : UnreadDump → ConversionFault
number_of_unread (unread.Reading reading_fault.OutOfMemory) = OutOfMemory
number_of_unread (unread.Reading fault) = Refused (reading.number_of fault)
number_of_unread (unread.Dot dot_fault.OutOfMemory) = OutOfMemory
number_of_unread (unread.Dot fault) = Refused (dot.number_of fault)

-- the fault of the command for a dump from which no graph follows, or whose graph can't be written
abbrev pub command_fault : ImportFault → ConversionFault
command_fault (import.Refused dump_fault.OutOfMemory) = OutOfMemory
command_fault (import.Refused fault) = Refused (dump.number_of fault)
command_fault import.Write = Write
command_fault import.OutOfMemory = OutOfMemory

-- the bytes say a dump in this form, and this came of its import
abbrev pub WasDumpImported : {W : Type 0} → DumpFormat → ImportRequest → List ℕ → (W → Option (List ℕ)) → W → W
    → Result (Unit {0}) ImportFault → Type 0
WasDumpImported form request bytes contents old new result =
    (d : Dump) × SaysDump form bytes d × WasImported (choice_of request) d contents old new result

-- what a writer took of the graph that follows from a dump that is read in this form, by `WasImported`; and nothing, if
-- the bytes are no dump of this form
abbrev pub WasReadAndPrinted : {W : Type 0} → DumpFormat → ImportRequest → List ℕ → (W → Option (List ℕ)) → W → W
    → Result (Unit {0}) ConversionFault → Type 0
WasReadAndPrinted form request bytes contents old new (Ok done) =
    WasDumpImported form request bytes contents old new (Ok done)
WasReadAndPrinted form request bytes contents old new (Err ended) =
    ((fault : UnreadDump) × IsUnreadDump form bytes fault × (ended ≡ number_of_unread fault) × (new ≡ old))
    ⊎ ((fault : ImportFault) × WasDumpImported form request bytes contents old new (Err fault)
    × (ended ≡ command_fault fault))

-- what the command does: it reads and prints the dump in its form; if it has none, since the bytes look like another
-- file than a dump and no form is asked for, nothing is written, and 88 is the fault
abbrev pub WasDumpPrinted : {W : Type 0} → ImportRequest → List ℕ → (W → Option (List ℕ)) → W → W
    → Result (Unit {0}) ConversionFault → Type 0
WasDumpPrinted request bytes contents old new result =
    ((form : DumpFormat) × IsForm request.format bytes (Some form)
    × WasReadAndPrinted form request bytes contents old new result)
    ⊎ (IsForm request.format bytes None × (result ≡ Err (Refused 88)) × (new ≡ old))
