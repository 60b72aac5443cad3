-- The lines of the components so far.
use Rattle.std.proofs.Common.{take}
use Rattle.ov_answers.specs.Lines.{AreAllMemberLines}
use Rattle.ov_answers.specs.Code.Begun.{Gains}
use Rattle.ov_answers.proofs.component_texts.write_members.Given as goal

abbrev pub invariant-loop-place : goal.invariant-loop-place
invariant-loop-place l =
    Gains (AreAllMemberLines l.left_out l.names 0 (take l.place l.components)) l.fn.text.items l.text.items
