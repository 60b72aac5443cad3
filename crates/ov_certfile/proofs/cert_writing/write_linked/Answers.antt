-- The members, one after another, are those of the file.
use Rattle.std.proofs.Common.{true, subst, string_bytes}
use Rattle.serde_json.specs.Data.{member}
use Rattle.ov_certfile.specs.Kinds.{name_of}
use Rattle.ov_certfile.specs.DataOf.{data_in, ids_data}
use Rattle.ov_certfile.specs.Code.Writing.{WritesMembers}
use Rattle.ov_certfile.specs.declared.file_keys.Key.TheVariants as key
use Rattle.ov_certfile.proofs.Members.{then_written, object_written}
use Rattle.ov_certfile.proofs.cert_writing.write_linked.Goals as goal

pub returns-clause-text : goal.returns-clause-text
unfolding data_in
returns-clause-text c =
    let nodes = subst (λ ids. WritesMembers true (member (name_of key.Nodes) (ids_data ids))
    (string_bytes c.write_count.new.out) (string_bytes c.write_ids.new.out)) c.nodes.ensures.nodes
    c.in_ok-write_ids.ensures.members in
    object_written _ _ _ _ _ _ c.in_ok-write_mark.ensures
    (then_written _ _ _ _ _ _ c.in_ok-write_group_and_k.ensures.members
    (then_written _ _ _ _ _ _ c.in_ok-write_links.ensures.members
    (then_written _ _ _ _ _ _ c.in_ok-write_count.ensures.members nodes))) c.in_ok-write_end.ensures
