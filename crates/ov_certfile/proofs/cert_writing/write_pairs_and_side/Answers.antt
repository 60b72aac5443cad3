-- One member after another.
use Rattle.ov_certfile.proofs.Members.{then_written}
use Rattle.ov_certfile.proofs.cert_writing.write_pairs_and_side.Goals as goal

pub returns-clause-members : goal.returns-clause-members
returns-clause-members c =
    then_written _ _ _ _ _ _ c.in_ok-write_field.ensures.members c.in_ok-write_field-2.ensures.members
