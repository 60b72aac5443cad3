-- what is left, behind what is written, is the whole list; if the links that are left read back, all do
use Rattle.std.proofs.Common.{◌≡◌, ◌++◌, false, map, string_bytes}
use Rattle.serde_json.specs.View.{items_of}
use Rattle.serde_json.specs.Written.{items_text}
use Rattle.ov_certfile.specs.Forms.{link_in}
use Rattle.ov_certfile.specs.DataOf.{link_data}
use Rattle.ov_certfile.proofs.Listed.{EachReadsBack}
use Rattle.ov_certfile.proofs.link_list_writing.write_each_link.Given as goal

abbrev pub invariant-loop-link : goal.invariant-loop-link
invariant-loop-link l = record {
  text : string_bytes l.out ++ items_text l.later (items_of (map link_data l.link-iterator))
      ≡ string_bytes l.initial.out ++ items_text false (items_of (map link_data l.graph.links));
  back : EachReadsBack link_in link_data l.link-iterator → EachReadsBack link_in link_data l.graph.links;
}
