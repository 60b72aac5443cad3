-- what is left, behind what is written, is the whole list; if what is left reads back, all does
use Rattle.std.proofs.Common.{◌≡◌, ◌++◌, false, map, drop, string_bytes}
use Rattle.serde_json.specs.View.{items_of}
use Rattle.serde_json.specs.Written.{items_text}
use Rattle.ov_certfile.proofs.Listed.{EachReadsBack}
use Rattle.ov_certfile.proofs.value_writing.write_list.Given as goal

abbrev pub invariant-loop-field : goal.invariant-loop-field
invariant-loop-field g l = record {
  text : string_bytes l.out ++ items_text l.later (items_of (map g.T.Field.as_data (drop l.field-index l.fields)))
      ≡ string_bytes l.initial.out ++ items_text false (items_of (map g.T.Field.as_data l.fields));
  back : EachReadsBack g.T.Field.form g.T.Field.as_data (drop l.field-index l.fields)
      → EachReadsBack g.T.Field.form g.T.Field.as_data l.fields;
}
