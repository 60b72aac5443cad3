-- the names of the entries so far were taken
use Rattle.std.proofs.Common.{take}
use Rattle.ov_graph.specs.Links.{most_of}
use Rattle.ov_dump.specs.Code.Taking.{Gains}
use Rattle.ov_dump.specs.Faults.{entry_namings}
use Rattle.ov_dump.proofs.node_names_by_choice.take_entries.Given as goal

abbrev pub invariant-loop-entry : goal.invariant-loop-entry
invariant-loop-entry l = Gains (most_of l.limit) l.fn.names (entry_namings (take l.entry-index l.entries)) l.names
