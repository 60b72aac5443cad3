-- What ran in blocks is the scenario of the bytes that the reader had.
use Rattle.ov_run.proofs.OfReader.{run_in_blocks_of_reader}
use Rattle.ov_run_meaning.specs.Strict.{strictness_of}
use Rattle.ov_run_command.proofs.run_with_buffered_output.run_blocks_from.Goals as goal

pub returns-in-Ok : goal.returns-in-Ok
returns-in-Ok g c = record {
  run = run_in_blocks_of_reader (strictness_of c.args.run.strict) g.W.Write.contents c.args.sink
      c.run_blocks_told.result.0
      (g.R.Read.remaining c.args.reader)
      c.in-Ok.bytes.items c.deref.result.now c.run_blocks_told.result.1 c.in-Ok.ensures.bytes c.deref.ensures.value
      c.run_blocks_told.ensures.run;
}
