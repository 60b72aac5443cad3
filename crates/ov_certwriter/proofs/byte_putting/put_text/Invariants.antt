-- the bytes so far were put
use Rattle.std.proofs.Common.{take}
use Rattle.ov_certwriter.specs.Code.Blocks.{Puts}
use Rattle.ov_certwriter.proofs.byte_putting.put_text.Given as goal

abbrev pub invariant-loop-byte : goal.invariant-loop-byte
invariant-loop-byte l = Puts (take l.byte-index l.bytes) l.initial.out l.initial.end l.out l.end
