-- The members, one after another, are those of the entry.
use Rattle.serde_json.specs.Data.{no_members}
use Rattle.ov_certfile.specs.DataOf.{pair_data}
use Rattle.ov_certfile.proofs.Members.{then_written, object_written}
use Rattle.ov_certfile.proofs.entry_fields.write_pair.Goals as goal

pub returns-clause-text : goal.returns-clause-text
unfolding pair_data
returns-clause-text c =
    object_written _ no_members _ _ _ _ c.in_ok-write_mark.ensures
    (then_written _ _ _ _ _ _ c.in_ok-write_field.ensures.members
    (then_written _ _ _ _ _ _ c.in_ok-write_field-2.ensures.members c.in_ok-write_field-3.ensures.members))
    c.in_ok-write_mark-2.ensures
