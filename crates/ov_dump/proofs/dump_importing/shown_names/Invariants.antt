-- the names so far, as they are shown; if the names that are left are UTF-8, all are
use Rattle.std.proofs.Common.{◌≡◌, map, string_bytes, take, drop, IsUtf8}
use Rattle.std.specs.List.{AllByRecursion}
use Rattle.ov_dump.specs.ShownNames.{shown_text}
use Rattle.ov_dump.proofs.dump_importing.shown_names.Given as goal

abbrev pub invariant-loop-name : goal.invariant-loop-name
invariant-loop-name l = record {
  shown : map (λ name. string_bytes name) l.shown.items ≡ map shown_text (take l.name-index l.names);
  utf8 : AllByRecursion IsUtf8 (drop l.name-index l.names) → AllByRecursion IsUtf8 l.names;
}
