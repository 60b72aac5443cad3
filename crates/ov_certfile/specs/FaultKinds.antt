-- The kinds of the faults of a certificate file.
use Rattle.std.specs.Prelude.{Option, Result, Ok, Err}
use Rattle.ov_graph.specs.declared.fault.GraphFault.{GraphFault}
use Rattle.ov_certfile.specs.declared.file_keys.Key.{Key}
use Rattle.ov_certfile.specs.declared.fault.FileFault.{FileFault}
use Rattle.ov_certfile.specs.declared.fault.FileFault.TheVariants as fault
use Rattle.ov_certfile.specs.declared.reading.Filed.{Filed}

-- the kind of a fault: what is wrong, and at which key; a bad value without a key is a file that is no object
pub data Kind : Type 0 where
  NotJson : Kind
  MissingKey : (key : Key) → Kind
  UnknownKey : Kind
  BadValue : (key : Option Key) → Kind
  BadVersion : Kind
  Graph : (fault : GraphFault) → Kind
  OutOfMemory : Kind

-- the kind of each fault, without the place in a text, among keys, or inside a value
abbrev pub kind_of : FileFault → Kind
kind_of (fault.NotJson place) = NotJson
kind_of (fault.MissingKey key) = MissingKey key
kind_of (fault.UnknownKey at version verdict) = UnknownKey
kind_of (fault.BadValue bad) = BadValue bad.key
kind_of (fault.BadVersion newest) = BadVersion
kind_of (fault.Graph f) = Graph f
kind_of fault.OutOfMemory = OutOfMemory

-- the result of reading, with the kind of the fault in place of the fault
abbrev pub kind_in : Result Filed FileFault → Result Filed Kind
kind_in (Ok f) = Ok f
kind_in (Err e) = Err (kind_of e)
