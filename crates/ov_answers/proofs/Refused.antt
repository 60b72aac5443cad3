-- What a graph file that is refused makes of an analysis.
use Rattle.std.proofs.Common.{ℕ, List, refl}
use Rattle.ov_graph.specs.declared.size_limit.SizeLimit.{SizeLimit}
use Rattle.ov_graphfile.specs.GraphFiles.{IsGraphFileFault}
use Rattle.ov_graphfile.specs.declared.fault.GraphFileFault.{GraphFileFault}
use Rattle.ov_graphfile.specs.declared.fault.GraphFileFault.TheVariants as graph_file
use Rattle.ov_answers.specs.Code.TextFaults.{IsTextFault}
use Rattle.ov_run_meaning.specs.Faults.{fault_of_graph_file}

-- the fault of a graph file
pub of_graph_file : (limit : SizeLimit) (bytes : List ℕ) (own : GraphFileFault) → IsGraphFileFault limit bytes own
    → IsTextFault limit bytes (fault_of_graph_file own)
of_graph_file limit bytes (graph_file.Line l) is = (graph_file.Line l, is, refl)
of_graph_file limit bytes (graph_file.Graph f line) is = (graph_file.Graph f line, is, refl)
of_graph_file limit bytes graph_file.OutOfMemory is = tt
