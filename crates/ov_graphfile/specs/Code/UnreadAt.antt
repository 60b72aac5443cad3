-- Why a line ends the reading of a graph file.
use Rattle.std.specs.Prelude.{◌≡◌, ℕ, false, ⊤, List, None}
use Rattle.ov_lines.specs.Lines.{is_skipped}
use Rattle.ov_graphfile.specs.GraphFiles.{graph_line}
use Rattle.ov_graphfile.specs.declared.fault.GraphFileFault.{GraphFileFault}
use Rattle.ov_graphfile.specs.declared.fault.GraphFileFault.TheVariants as fault

-- the line with this number is not skipped and can't be read, or memory ran out
abbrev pub IsUnreadAt : ℕ → List ℕ → GraphFileFault → Type 0
IsUnreadAt n line (fault.Line unread) = (unread.line ≡ n) × (is_skipped line ≡ false) × (graph_line line ≡ None)
IsUnreadAt n line (fault.Graph graph_fault at) = ⊥
IsUnreadAt n line fault.OutOfMemory = ⊤
