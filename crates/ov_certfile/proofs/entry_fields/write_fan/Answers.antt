-- The members, one after another, are those of the entry.
use Rattle.serde_json.specs.Data.{no_members}
use Rattle.ov_certfile.specs.DataOf.{fan_data}
use Rattle.ov_certfile.proofs.Members.{then_written, object_written}
use Rattle.ov_certfile.proofs.entry_fields.write_fan.Goals as goal

pub returns-clause-text : goal.returns-clause-text
unfolding fan_data
returns-clause-text c =
    object_written _ no_members _ _ _ _ c.in_ok-write_mark.ensures
    (then_written _ _ _ _ _ _ c.in_ok-write_field.ensures.members c.in_ok-write_field-2.ensures.members)
    c.in_ok-write_mark-2.ensures
