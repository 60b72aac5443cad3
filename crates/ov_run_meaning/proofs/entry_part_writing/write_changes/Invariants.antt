-- with the changes that are left, all are written
use Rattle.std.proofs.Common.{◌≡◌, ◌++◌, drop, flat_map, string_bytes}
use Rattle.ov_run_meaning.specs.Printed.{change_text}
use Rattle.ov_run_meaning.proofs.entry_part_writing.write_changes.Given as goal

abbrev pub invariant-loop-change : goal.invariant-loop-change
invariant-loop-change l =
    string_bytes l.line ++ flat_map change_text (drop l.change-index l.changes)
    ≡ string_bytes l.fn.line ++ flat_map change_text l.changes
