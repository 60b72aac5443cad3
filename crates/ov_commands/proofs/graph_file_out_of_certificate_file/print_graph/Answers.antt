-- The text of the graph, or a prefix of it, was written.
use Rattle.std.proofs.Common.{◌∙◌}
use Rattle.ov_commands.specs.Printing.{IsGraphTextOf}
use Rattle.ov_commands.proofs.Printed.{graph_written}
use Rattle.ov_commands.proofs.graph_file_out_of_certificate_file.print_graph.Goals as goal

pub returns-in-Ok-graph_text : goal.returns-in-Ok-graph_text
returns-in-Ok-graph_text g c =
    let text : IsGraphTextOf c.args.newest c.args.bytes.now c.deref.result.now =
    (c.in-Ok.filed, c.in-Ok.ensures, c.deref.ensures.value ∙ c.in-Ok-graph_text.ensures.text) in
    record {
      printed =
          graph_written c.args.newest c.args.bytes.now c.deref.result.now g.W.Write.contents c.args.sink.now.writer
          c.written.new.sink.writer c.written.result text c.written.ensures;
    }
