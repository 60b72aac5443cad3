-- A number of four digits is short.
use Rattle.std.proofs.Common.{arith}
use Rattle.std.proofs.lemmas.Fmt.{length-decimal-le}
use Rattle.ov_certwriter.proofs.byte_putting.put_whole.Goals as goal

pub returns-then-number-lt10000-clause-short : goal.returns-then-number-lt10000-clause-short
returns-then-number-lt10000-clause-short c =
    let few = c.if-number-lt10000.true in
    length-decimal-le 10 c.args.number (omega arith) (omega (arith, few)) (omega (arith, few))
