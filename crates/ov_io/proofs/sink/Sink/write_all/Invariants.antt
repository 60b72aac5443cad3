-- what was written, and what is left to write
use Rattle.std.proofs.Common.{◌≡◌, ◌++◌, ℕ, List, length}
use Rattle.std.specs.Io.KnownBytes.{Appends}
use Rattle.ov_io.proofs.sink.Sink.write_all.Given as goal

abbrev pub invariant-loop-rest : goal.invariant-loop-rest
invariant-loop-rest g l = record {
  taken : (done : List ℕ)
      × Appends (g.W.Write.contents l.fn.self.writer) (g.W.Write.contents l.self-inside.writer.writer) done
      × (done ++ l.rest ≡ l.bytes);
  faults : l.self-inside.writer.failures ≡ l.fn.self.faults;
}

abbrev pub decreases-loop-rest : goal.decreases-loop-rest
decreases-loop-rest g l = length l.rest
