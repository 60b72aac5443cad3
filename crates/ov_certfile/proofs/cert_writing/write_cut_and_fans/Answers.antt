-- One member after another.
use Rattle.ov_certfile.proofs.Members.{then_written}
use Rattle.ov_certfile.proofs.cert_writing.write_cut_and_fans.Goals as goal

pub returns-clause-members : goal.returns-clause-members
returns-clause-members c =
    then_written _ _ _ _ _ _ c.in_ok-write_field.ensures.members
    (then_written _ _ _ _ _ _ c.in_ok-write_field-2.ensures.members c.in_ok-write_field-3.ensures.members)
