-- what was read is what the reader lost; each turn was one read, none failed, and none was the end
use Rattle.std.proofs.Common.{◌≡◌, ◌+◌, min}
use Rattle.std.specs.Io.KnownBytes.{Consumes}
use Rattle.ov_io.specs.Device.{most_counted}
use Rattle.ov_io.proofs.input_reading_to_end.Source.read_all.Given as goal

abbrev pub invariant-loop : goal.invariant-loop
invariant-loop g l = record {
  consumed : Consumes (g.R.Read.remaining l.fn.self.reader) (g.R.Read.remaining l.self-inside.reader.reader)
      l.bytes.items;
  reads : l.self-inside.reader.reads ≡ min (l.fn.self.reads + l.counter) most_counted;
  failures : l.self-inside.reader.failures ≡ l.fn.self.failures;
  ends : l.self-inside.reader.ends ≡ l.fn.self.ends;
  faults : l.self-inside.reader.failures + l.self-inside.endless ≡ l.fn.self.faults;
}
