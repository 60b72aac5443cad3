-- The numbers of the faults of a certificate file.
use Rattle.std.specs.Prelude.{ℕ}
use Rattle.ov_graph.specs.Faults as graph
use Rattle.ov_certfile.specs.declared.fault.FileFault.{FileFault}
use Rattle.ov_certfile.specs.declared.fault.FileFault.TheVariants.{NotJson, MissingKey, UnknownKey, BadValue}
use Rattle.ov_certfile.specs.declared.fault.FileFault.TheVariants.{BadVersion, Graph, OutOfMemory}

-- the number of each fault; a fault of the graph keeps its own number
abbrev pub number_of : FileFault → ℕ
number_of (NotJson place) = 60
number_of (MissingKey key) = 61
number_of (UnknownKey at version verdict) = 62
number_of (BadValue bad) = 63
number_of (BadVersion newest) = 64
number_of (Graph f) = graph.number_of f
number_of OutOfMemory = 99
