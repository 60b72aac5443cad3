-- What the lines printed is what they printed still, handed on or not.
use Rattle.ov_run.proofs.Printing.HandedOn.{handed_on}
use Rattle.ov_run.proofs.line_running.run_lines.Goals as goal

pub returns : goal.returns
returns g c = record {
  ran = handed_on c.args.strictness g.W.Write.contents c.args.hall c.args.lines.items c.args.lines.file_lines
      c.args.sink.now
      c.run_each-ran.new.sink c.flush.new.self c.flush.ensures.bytes c.run_each-ran.result
      c.in_ok-flush.ensures.faults c.run_each-ran.ensures.ran;
}
