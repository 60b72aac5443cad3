-- the ids so far, and those of the pieces that are left
use Rattle.std.proofs.Common.{map, drop}
use Rattle.std.specs.List.{slice_split}
use Rattle.ov_lines.specs.Lines.{is_comma}
use Rattle.ov_lines.proofs.Lines.Spelling.{Spells}
use Rattle.ov_lines.proofs.id_list_reading.read_ids.Given as goal

abbrev pub invariant-loop-piece : goal.invariant-loop-piece
invariant-loop-piece l =
    Spells (slice_split is_comma l.fn.word) (map (λ piece. piece.now) (drop l.piece-index l.piece-items)) l.ids.items
