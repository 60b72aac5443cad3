-- What ran is the scenario of the bytes that the source had.
use Rattle.ov_run.proofs.OfReader.{run_of_reader}
use Rattle.ov_run_meaning.proofs.OfReader.{no_read_fault}
use Rattle.ov_run.proofs.engine.run_watched.Goals as goal

pub returns : goal.returns
returns g c =
    let read = c.in_ok-bytes in
    record {
      run = record {
        run = run_of_reader c.args.strictness g.W.Write.contents c.args.sink.now c.run_bytes.new.sink
            (g.R.Read.remaining c.args.source.now.reader) read.bytes.items c.deref.result.now c.run_bytes.result
            read.ensures.bytes c.deref.ensures.value c.run_bytes.ensures.run;
        source = no_read_fault c.run_bytes.result c.run_bytes.ensures.read _ _ read.ensures.faults;
        failed = λ e. absurd (c.run_bytes.ensures.read e);
        not_failed = λ other. read.ensures.not_failed (λ e. absurd cc);
      };
    }
