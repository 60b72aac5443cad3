-- The lines so far, followed by those that are left, are all of them.
use Rattle.std.proofs.Common.{◌≡◌, ◌∷◌, ◌++◌, flat_map, length}
use Rattle.ov_lines.specs.Lines.{kept_lines}
use Rattle.ov_commands.proofs.node_list_texts.list_text.Given as goal

abbrev pub invariant-loop-line : goal.invariant-loop-line
invariant-loop-line l =
    l.text.items ++ flat_map (λ line. 44 ∷ line.1) l.lines ≡ flat_map (λ line. 44 ∷ line.1) (kept_lines l.fn.bytes)

abbrev pub decreases-loop-line : goal.decreases-loop-line
decreases-loop-line l = length l.lines
