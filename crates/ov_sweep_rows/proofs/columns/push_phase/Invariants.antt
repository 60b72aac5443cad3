use Rattle.std.proofs.Common.{◌≡◌, ◌++◌, map, take}
use Rattle.ov_sweep_rows.specs.Columns.{in_phase}
use Rattle.ov_sweep_rows.specs.Code.Named.{name_and_form, part_of_phase}
use Rattle.ov_sweep_rows.proofs.columns.push_phase.Given as goal

abbrev pub invariant-loop-part : goal.invariant-loop-part
invariant-loop-part l =
    map name_and_form l.columns.items
    ≡ map name_and_form l.fn.columns.items ++ in_phase l.phase (map part_of_phase (take l.part-index l.group))
