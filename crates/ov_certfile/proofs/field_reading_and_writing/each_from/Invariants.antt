-- the items read so far, and those still to read
use Rattle.std.proofs.Common.{◌≡◌, drop}
use Rattle.serde_json.specs.View.{items_view}
use Rattle.ov_certfile.specs.Forms.{each_in}
use Rattle.ov_certfile.proofs.Listed.{with_front}
use Rattle.ov_certfile.proofs.field_reading_and_writing.each_from.Given as goal

abbrev pub invariant-loop-at : goal.invariant-loop-at
invariant-loop-at g l =
    with_front l.fields.items (each_in g.T.Field.form (items_view (drop l.at l.values)))
    ≡ each_in g.T.Field.form (items_view l.values)
