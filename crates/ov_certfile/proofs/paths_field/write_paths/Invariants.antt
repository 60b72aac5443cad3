-- what is left, behind what is written, is the whole list; if the paths that are left read back, all do
use Rattle.std.proofs.Common.{◌≡◌, ◌++◌, false, map, string_bytes}
use Rattle.serde_json.specs.View.{items_of}
use Rattle.serde_json.specs.Written.{items_text}
use Rattle.ov_certfile.specs.Forms.{ids_in}
use Rattle.ov_certfile.specs.DataOf.{ids_data}
use Rattle.ov_certfile.proofs.Listed.{EachReadsBack}
use Rattle.ov_certfile.proofs.paths_field.write_paths.Given as goal

abbrev pub invariant-loop-path : goal.invariant-loop-path
invariant-loop-path l = record {
  text : string_bytes l.out ++ items_text l.later (items_of (map ids_data l.path-iterator))
      ≡ string_bytes l.initial.out ++ items_text false (items_of (map ids_data l.paths));
  back : EachReadsBack ids_in ids_data l.path-iterator → EachReadsBack ids_in ids_data l.paths;
}
