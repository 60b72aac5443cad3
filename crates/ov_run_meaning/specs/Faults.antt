-- The faults of a run and of an analysis: their numbers, the lines that they name, how they are shown, and what a run
-- adds to the counts of faults of its reader and its writer. The numbers are chosen here.
use Rattle.std.specs.Prelude.{◌≡◌, ℕ, ⊤, List, ◌++◌, Option, Some, None, IfSome, Result, Err, codes, decimal}
use Rattle.ov_io.specs.Device as device
use Rattle.ov_io.specs.Refusal.{refusal_text}
use Rattle.ov_io.specs.declared.fault.ReadFault.{ReadFault}
use Rattle.ov_io.specs.declared.fault.ReadFault.TheVariants as read
use Rattle.ov_graph.specs.Faults as graph
use Rattle.ov_graph.specs.declared.size_limit.SizeLimit.{SizeLimit}
use Rattle.ov_scenario.specs.Scenarios.{IsReadingFault}
use Rattle.ov_scenario.specs.declared.scenario_fault.LineFault.{LineFault}
use Rattle.ov_scenario.specs.declared.scenario_fault.LineFault.TheVariants.{OutOfLimits}
use Rattle.ov_scenario.specs.declared.scenario_fault.ScenarioFault.{ScenarioFault}
use Rattle.ov_scenario.specs.declared.scenario_fault.ScenarioFault.TheVariants as scenario
use Rattle.ov_graphfile.specs.GraphFiles.{IsGraphFileFault}
use Rattle.ov_graphfile.specs.declared.fault.GraphFileFault.{GraphFileFault}
use Rattle.ov_graphfile.specs.declared.fault.GraphFileFault.TheVariants as graph_file
use Rattle.ov_run_meaning.specs.Refusals as refusals
use Rattle.ov_run_meaning.specs.declared.run_fault.RunFault.{RunFault}
use Rattle.ov_run_meaning.specs.declared.run_fault.RunFault.TheVariants.{Line, Params, Graph, Read, Write, Refused}
use Rattle.ov_run_meaning.specs.declared.run_fault.RunFault.TheVariants.{OutOfMemory}

-- ---- each fault

-- the fault's number
abbrev pub number_of : RunFault → ℕ
number_of (Line n) = 70
number_of (Params n) = 21
number_of (Graph fault line) = graph.number_of fault
number_of Read = device.read_failed
number_of Write = device.write_failed
number_of (Refused n refusal) = 74
number_of OutOfMemory = 99

-- the number that is printed of a fault: its own, or, of a line that was refused, that of the refusal
abbrev pub printed_number_of : RunFault → ℕ
printed_number_of (Refused n refusal) = refusals.number_of refusal
printed_number_of other = number_of other

-- the number of the line that is printed, if one is: that of a line at fault, or of one that was refused
abbrev pub line_number_of : RunFault → Option ℕ
line_number_of (Line n) = Some n
line_number_of (Params n) = Some n
line_number_of (Graph fault line) = None
line_number_of Read = None
line_number_of Write = None
line_number_of (Refused n refusal) = Some n
line_number_of OutOfMemory = None

-- a refusal with this number, of this line if one is named: `line 3: refused 70`, or `refused 71`
abbrev pub line_refusal_text : Option ℕ → ℕ → List ℕ
line_refusal_text (Some line) number = codes "line " ++ (decimal line ++ (codes ": " ++ refusal_text number))
line_refusal_text None number = refusal_text number

-- the line that `overlay` prints of a fault on standard error, without its line feed
unfoldable pub run_fault_text : RunFault → List ℕ
run_fault_text fault = line_refusal_text (line_number_of fault) (printed_number_of fault)

-- ---- which fault of a part is which fault of a run

-- a fault of the reader
abbrev pub fault_of_read : ReadFault → RunFault
fault_of_read read.Read = Read
fault_of_read read.OutOfMemory = OutOfMemory

-- the fault of a line of a scenario file
abbrev pub fault_at : ℕ → LineFault → RunFault
fault_at n (OutOfLimits numbers) = Params n
fault_at n other = Line n

-- a fault of a scenario file
abbrev pub fault_of_scenario : ScenarioFault → RunFault
fault_of_scenario (scenario.Line l) = fault_at l.line l.fault
fault_of_scenario scenario.OutOfMemory = OutOfMemory

-- a fault of a graph file
abbrev pub fault_of_graph_file : GraphFileFault → RunFault
fault_of_graph_file (graph_file.Line l) = Line l.line
fault_of_graph_file (graph_file.Graph fault line) = Graph fault line
fault_of_graph_file graph_file.OutOfMemory = OutOfMemory

-- a scenario file of these bytes can be refused with this fault: that of its first line at fault, or out of memory
abbrev pub IsScenarioFileFault : List ℕ → RunFault → Type 0
IsScenarioFileFault bytes f = (own : ScenarioFault) × IsReadingFault bytes own × (f ≡ fault_of_scenario own)

-- a graph file of these bytes, which may say a graph of as many nodes as the limit says, can be refused with this
-- fault: that of the file, or out of memory
abbrev pub IsAnalysisFileFault : SizeLimit → List ℕ → RunFault → Type 0
IsAnalysisFileFault limit bytes f =
    (own : GraphFileFault) × IsGraphFileFault limit bytes own × (f ≡ fault_of_graph_file own)

-- what the fault of a run says of the bytes that the reader had: one of a line is that of their first line at fault. No
-- run returns a fault of a graph. What it says of a line that was refused is `StopsScenario`
abbrev pub IsRunFault : Option (List ℕ) → RunFault → Type 0
IsRunFault reader (Line n) = IfSome reader (λ bytes. IsScenarioFileFault bytes (Line n))
IsRunFault reader (Params n) = IfSome reader (λ bytes. IsScenarioFileFault bytes (Params n))
IsRunFault reader (Graph fault line) = ⊥
IsRunFault reader Read = ⊤
IsRunFault reader Write = ⊤
IsRunFault reader (Refused n refusal) = ⊤
IsRunFault reader OutOfMemory = ⊤

-- the same for an analysis of a graph file, which has no line of parameters, and none that runs. Its graph may have as
-- many nodes as the limit says
abbrev pub IsAnalysisFault : SizeLimit → Option (List ℕ) → RunFault → Type 0
IsAnalysisFault limit reader (Line n) = IfSome reader (λ bytes. IsAnalysisFileFault limit bytes (Line n))
IsAnalysisFault limit reader (Params n) = ⊥
IsAnalysisFault limit reader (Graph fault line) =
    IfSome reader (λ bytes. IsAnalysisFileFault limit bytes (Graph fault line))
IsAnalysisFault limit reader Read = ⊤
IsAnalysisFault limit reader Write = ⊤
IsAnalysisFault limit reader (Refused n refusal) = ⊥
IsAnalysisFault limit reader OutOfMemory = ⊤

-- the fault was met before anything ran: the reader failed, or a line or the graph is at fault
abbrev pub IsOfReading : RunFault → Type 0
IsOfReading (Line n) = ⊤
IsOfReading (Params n) = ⊤
IsOfReading (Graph fault line) = ⊤
IsOfReading Read = ⊤
IsOfReading Write = ⊥
IsOfReading (Refused n refusal) = ⊥
IsOfReading OutOfMemory = ⊥

-- ---- counts of faults

-- how many faults of its reader a call counts: a reader that fails ends the run, so it fails once
abbrev pub read_faults : {A : Type 0} → Result A RunFault → ℕ
read_faults (Err Read) = 1
read_faults other = 0

-- how many faults of its writer a call counts: a writer that fails ends the run, so it fails once
abbrev pub write_faults : {A : Type 0} → Result A RunFault → ℕ
write_faults (Err Write) = 1
write_faults other = 0
