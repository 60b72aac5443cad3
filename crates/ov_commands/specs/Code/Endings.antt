-- How parts of a command end.
use Rattle.std.specs.Prelude.{ℕ, ⊤, List, Option, Result, Ok, Err}
use Rattle.std.specs.Io.KnownBytes.{Appends}
use Rattle.ov_graph.specs.Links.{LinkGraph}
use Rattle.ov_io.specs.Device.{AppendsPrefixOf}
use Rattle.ov_commands.specs.Pictures.{HoldsNot, NamesNot}
use Rattle.ov_commands.specs.declared.conversion_fault.ConversionFault.{ConversionFault}
use Rattle.ov_commands.specs.declared.conversion_fault.ConversionFault.TheVariants.{Refused, Write, OutOfMemory}

-- no certificate that holds was found in the bytes: there is none, or memory ran out
abbrev pub IsNotHeld : List ℕ → ConversionFault → Type 0
IsNotHeld bytes (Refused number) = HoldsNot bytes number
IsNotHeld bytes Write = ⊥
IsNotHeld bytes OutOfMemory = ⊤

-- the nodes of the graph got no names: the file with names is refused, or memory ran out
abbrev pub IsNotNamed : Option (List ℕ) → LinkGraph → ConversionFault → Type 0
IsNotNamed names g (Refused number) = NamesNot names g number
IsNotNamed names g Write = ⊥
IsNotNamed names g OutOfMemory = ⊤

-- a writer took this text, or a prefix of it if writing failed
abbrev pub WasWritten :
    {W : Type 0} → List ℕ → (W → Option (List ℕ)) → W → W → Result (Unit {0}) ConversionFault → Type 0
WasWritten text contents old new (Ok done) = Appends (contents old) (contents new) text
WasWritten text contents old new (Err Write) = AppendsPrefixOf text (contents old) (contents new)
WasWritten text contents old new (Err other) = ⊥
