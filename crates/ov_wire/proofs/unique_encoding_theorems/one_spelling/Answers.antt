use Rattle.ov_wire.proofs.Messages.{spelled_once}
use Rattle.ov_wire.proofs.unique_encoding_theorems.one_spelling.Goals as goal

pub returns : goal.returns
returns c = spelled_once
