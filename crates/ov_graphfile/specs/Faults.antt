-- The faults of a graph file: their numbers, and how they are shown. The numbers of a line that can't be read and of
-- out of memory are chosen here.
use Rattle.std.specs.Prelude.{ℕ, List, ◌++◌, codes, decimal}
use Rattle.ov_io.specs.Refusal.{refusal_text}
use Rattle.ov_graph.specs.Faults as graph
use Rattle.ov_graphfile.specs.declared.fault.GraphFileFault.{GraphFileFault}
use Rattle.ov_graphfile.specs.declared.fault.GraphFileFault.TheVariants.{Line, Graph, OutOfMemory}

-- the fault's number
abbrev pub number_of : GraphFileFault → ℕ
number_of (Line unread) = 70
number_of (Graph fault line) = graph.number_of fault
number_of OutOfMemory = 99

-- the line that `overlay` prints of a fault on standard error, without its line feed: `line 3: refused 70` of a line
-- that can't be read, or `refused 32`
unfoldable pub graph_file_fault_text : GraphFileFault → List ℕ
graph_file_fault_text (Line unread) =
    codes "line " ++ (decimal unread.line ++ (codes ": " ++ refusal_text (number_of (Line unread))))
graph_file_fault_text (Graph fault line) = refusal_text (number_of (Graph fault line))
graph_file_fault_text OutOfMemory = refusal_text (number_of OutOfMemory)
