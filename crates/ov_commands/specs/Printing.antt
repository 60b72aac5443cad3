-- What the commands print that turn one file into another.
use Rattle.std.specs.Prelude.{◌≡◌, ℕ, List, Option, Result, Ok, Err}
use Rattle.std.specs.Io.KnownBytes.{Appends}
use Rattle.ov_certfile.specs.Number.{number_of}
use Rattle.ov_certfile.specs.declared.fault.FileFault.{FileFault}
use Rattle.ov_certfile.specs.declared.reading.Filed.{Filed}
use Rattle.ov_certfile.specs.declared.version.Version.{Version}
use Rattle.ov_check.specs.Outcome.{BytesSay}
use Rattle.ov_graphfile.specs.GraphTexts.{graph_text}
use Rattle.ov_io.specs.Device.{AppendsPrefixOf}
use Rattle.ov_commands.specs.declared.conversion_fault.ConversionFault.{ConversionFault}
use Rattle.ov_commands.specs.declared.conversion_fault.ConversionFault.TheVariants.{Refused, Write, OutOfMemory}

-- these bytes are a certificate file, of this version or an older one, and this is the text of its graph as a graph
-- file
abbrev pub IsGraphTextOf : Version → List ℕ → List ℕ → Type 0
IsGraphTextOf newest bytes text = (f : Filed) × BytesSay newest bytes (Ok f) × (text ≡ graph_text f.graph)

-- what a writer took of the graph of a certificate file: all of its text; a prefix of it, if writing failed; and
-- nothing, if the bytes are no certificate file, with the number of their first fault, or if memory ran out
abbrev pub WasGraphPrinted :
    {W : Type 0} → Version → List ℕ → (W → Option (List ℕ)) → W → W → Result (Unit {0}) ConversionFault → Type 0
WasGraphPrinted newest bytes contents old new (Ok done) =
    (text : List ℕ) × IsGraphTextOf newest bytes text × Appends (contents old) (contents new) text
WasGraphPrinted newest bytes contents old new (Err Write) =
    (text : List ℕ) × IsGraphTextOf newest bytes text × AppendsPrefixOf text (contents old) (contents new)
WasGraphPrinted newest bytes contents old new (Err (Refused number)) =
    (fault : FileFault) × BytesSay newest bytes (Err fault) × (number ≡ number_of fault) × (new ≡ old)
WasGraphPrinted newest bytes contents old new (Err OutOfMemory) = new ≡ old
