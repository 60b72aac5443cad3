-- What fits 64 bits is read.
use Rattle.std.proofs.Common.{rules, ◌<◌, ◌^◌, IfSome}
use Rattle.ov_lines.proofs.Lines.Numerals.{number_read}
use Rattle.ov_lines.proofs.numeral.read_number.Goals as goal

pub returns : goal.returns
returns c =
    let fits : IfSome c.parsed.result (λ n. n < 2 ^ 64) = search rules in
    number_read c.args.word.now c.parsed.result c.parsed.ensures.some fits c.parsed.ensures.none
