-- Before the first read nothing is read and nothing has failed.
use Rattle.std.proofs.Common.{refl, arith}
use Rattle.std.proofs.KnownBytes.{Consumes-nil}
use Rattle.ov_io.proofs.input_reading_to_end.Source.read_all.Goals as goal

pub loop-init : goal.loop-init
loop-init g c =
    rw (← c.self.view_is, c.new-bytes.ensures.items) (record {
      consumed = Consumes-nil _;
      reads = omega (arith, c.self.invariant.reads);
      failures = refl;
      ends = refl;
      faults = refl;
    })
