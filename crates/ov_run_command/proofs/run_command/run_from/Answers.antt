-- What ran is the scenario of the bytes that the reader had.
use Rattle.ov_run.proofs.OfReader.{run_of_reader}
use Rattle.ov_run_meaning.specs.Strict.{strictness_of}
use Rattle.ov_run_command.proofs.run_command.run_from.Goals as goal

pub returns : goal.returns
returns g c = record {
  run = run_of_reader (strictness_of c.args.run.strict) g.W.Write.contents c.args.sink.now c.run_told.new.sink
      (g.R.Read.remaining c.args.reader)
      c.in_ok-bytes.bytes.items c.deref.result.now c.run_told.result c.in_ok-bytes.ensures.bytes c.deref.ensures.value
      c.run_told.ensures.run;
}
