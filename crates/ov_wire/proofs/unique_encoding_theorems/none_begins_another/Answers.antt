use Rattle.ov_wire.proofs.Messages.{begins_no_other}
use Rattle.ov_wire.proofs.unique_encoding_theorems.none_begins_another.Goals as goal

pub returns : goal.returns
returns c = begins_no_other
