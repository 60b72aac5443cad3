use Rattle.std.proofs.Common.{◌≡◌, ◌++◌, map, take}
use Rattle.ov_sweep_rows.specs.Code.Named.{name_and_form, option_of}
use Rattle.ov_sweep_rows.proofs.columns.push_options.Given as goal

abbrev pub invariant-loop-name : goal.invariant-loop-name
invariant-loop-name l =
    map name_and_form l.columns.items
    ≡ map name_and_form l.fn.columns.items ++ map option_of (take l.name-index l.options)
