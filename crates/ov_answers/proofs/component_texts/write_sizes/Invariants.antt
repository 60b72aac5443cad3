-- The sizes of the components so far.
use Rattle.std.proofs.Common.{◌≡◌, ◌++◌, take}
use Rattle.ov_answers.specs.Lines.{sizes_text}
use Rattle.ov_answers.proofs.component_texts.write_sizes.Given as goal

abbrev pub invariant-loop-place : goal.invariant-loop-place
invariant-loop-place l = l.text.items ≡ l.fn.text.items ++ sizes_text (take l.place l.components)
