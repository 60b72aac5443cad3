use Rattle.std.proofs.Common.{arith}
use Rattle.ov_wire.proofs.Decoded.{answers_spelled, answers_only, answers_first, memory_spelled}
use Rattle.ov_wire.proofs.reading.decode.Goals as goal

pub returns-clause-ok : goal.returns-clause-ok
returns-clause-ok c =
    answers_spelled c.args.bytes.now c.message_of.result
    (λ i. omega (arith, c.type_inv.bytes i)) c.message_of.ensures.read c.message_of.ensures.kind

pub returns-clause-only : goal.returns-clause-only
returns-clause-only c =
    answers_only c.args.bytes.now c.message_of.result
    (λ i. omega (arith, c.type_inv.bytes i)) c.message_of.ensures.read c.message_of.ensures.kind

pub returns-clause-fault : goal.returns-clause-fault
returns-clause-fault c =
    answers_first c.args.bytes.now c.message_of.result
    (λ i. omega (arith, c.type_inv.bytes i)) c.message_of.ensures.read

pub returns-clause-memory : goal.returns-clause-memory
returns-clause-memory c = λ h. (
  c.message_of.ensures.memory h,
  memory_spelled c.args.bytes.now c.message_of.result
      (λ i. omega (arith, c.type_inv.bytes i)) c.message_of.ensures.read h,
)
