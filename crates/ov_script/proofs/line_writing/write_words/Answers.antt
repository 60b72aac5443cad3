-- One number after the other.
use Rattle.std.proofs.Common.{arith}
use Rattle.ov_script.proofs.Appending.{number_more, number_none}
use Rattle.ov_script.proofs.line_writing.write_words.Goals as goal

pub loop-number-preserved : goal.loop-number-preserved
loop-number-preserved c =
    let l = c.loop-number in
    let w = c.write_number.ensures in
    record {
      items = number_more c.args.numbers.now l.text.items c.write_number.new.text.items _ l.number-index
          (omega (arith, c.loop-number-test.true)) w.items l.invariant.items;
      room = omega (arith, w.len, l.invariant.room);
      capacity = omega (arith, w.capacity, l.invariant.capacity);
    }

pub returns-clause-items : goal.returns-clause-items
returns-clause-items c =
    let l = c.loop-number in
    number_none c.args.numbers.now l.text.items _ l.number-index (omega (arith, c.loop-number-test.false))
    l.invariant.items
