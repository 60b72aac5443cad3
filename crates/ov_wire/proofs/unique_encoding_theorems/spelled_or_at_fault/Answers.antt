use Rattle.std.proofs.Common.{arith}
use Rattle.ov_wire.proofs.Made.{spelled_or_first}
use Rattle.ov_wire.proofs.unique_encoding_theorems.spelled_or_at_fault.Goals as goal

pub returns : goal.returns
returns c = spelled_or_first c.args.bytes.now (λ i. omega (arith, c.type_inv.bytes i))
