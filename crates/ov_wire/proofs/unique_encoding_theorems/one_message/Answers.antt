use Rattle.ov_wire.proofs.Messages.{read_once}
use Rattle.ov_wire.proofs.unique_encoding_theorems.one_message.Goals as goal

pub returns : goal.returns
returns c = read_once
