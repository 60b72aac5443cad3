-- What was analysed is the graph file of the bytes that the source had.
use Rattle.std.proofs.Common.{option_map}
use Rattle.ov_answers.proofs.OfReader.{analysis_of_reader}
use Rattle.ov_run_meaning.proofs.OfReader.{no_read_fault}
use Rattle.ov_answers.proofs.graph_file_analysis.analyse_file.Goals as goal

pub returns : goal.returns
returns g c =
    let read = c.in_ok-bytes in
    record {
      analysis = record {
        analysis = analysis_of_reader c.args.limit g.W.Write.contents c.args.sink.now c.analyse_bytes.new.sink
            (option_map (λ ids. ids.now) c.args.group) c.args.certificate (g.R.Read.remaining c.args.source.now.reader)
            read.bytes.items c.deref.result.now c.analyse_bytes.result read.ensures.bytes c.deref.ensures.value
            c.analyse_bytes.ensures.analysis;
        source = no_read_fault c.analyse_bytes.result c.analyse_bytes.ensures.read _ _ read.ensures.faults;
        failed = λ e. absurd (c.analyse_bytes.ensures.read e);
        not_failed = λ other. read.ensures.not_failed (λ e. absurd cc);
      };
    }
