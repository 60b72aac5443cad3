-- what was written are the options so far; with those that are left they are all
use Rattle.std.proofs.Common.{◌≡◌, ◌++◌, map}
use Rattle.std.specs.Fmt.{HasWritten, IsPlainFormatter}
use Rattle.std.specs.List.{flat_map}
use Rattle.ov_grow_options.specs.CommandLine.{name_and_default, shown_options}
use Rattle.ov_grow_options.proofs.Showing.{text_of}
use Rattle.ov_grow_options.proofs.options_as_command.ShownOptionsDisplay.fmt.Given as goal

abbrev pub invariant-loop-row : goal.invariant-loop-row
invariant-loop-row g l =
    let text = flat_map text_of l.yielded in
    record {
      written : IsPlainFormatter l.initial.f → HasWritten g.W.Write.write_str_gives l.initial.f text l.f;
      whole : text ++ shown_options (map name_and_default l.row-iterator.a.rest.now) l.row-iterator.b.rest.now
          ≡ shown_options (map name_and_default l.self.rows.now) l.self.values.now;
    }
