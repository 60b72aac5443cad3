-- A fault without a line is out of memory.
use Rattle.std.proofs.Common.{◌∙◌, sym}
use Rattle.ov_graph.specs.Links.{most_of}
use Rattle.ov_graphfile.proofs.GraphFiles.Faults.{no_line}
use Rattle.ov_graphfile.proofs.graph_reading.fault_of_file.Goals as goal

pub returns-in-None-clause-memory : goal.returns-in-None-clause-memory
returns-in-None-clause-memory c _ =
    no_line (most_of c.args.limit) c.args.bytes.now c.args.fault c.requires.refused
    (sym c.line_at_fault.ensures ∙ c.in-None.is)
