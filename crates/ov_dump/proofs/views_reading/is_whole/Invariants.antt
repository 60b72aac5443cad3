-- what is left decides
use Rattle.std.proofs.Common.{◌≡◌, drop}
use Rattle.ov_dump.specs.Views.{is_whole}
use Rattle.ov_dump.proofs.views_reading.is_whole.Given as goal

abbrev pub invariant-loop-byte : goal.invariant-loop-byte
invariant-loop-byte l = is_whole (drop l.byte-index l.written) ≡ is_whole l.written
