-- A line for each node so far.
use Rattle.std.proofs.Common.{take}
use Rattle.ov_answers.specs.Lines.{AreNodeLines}
use Rattle.ov_answers.specs.Code.Begun.{Gains}
use Rattle.ov_answers.proofs.name_lines.write_nodes.Given as goal

abbrev pub invariant-loop-id : goal.invariant-loop-id
invariant-loop-id l =
    Gains (AreNodeLines l.words l.names (take l.id-index l.ids)) l.fn.text.items l.text.items
