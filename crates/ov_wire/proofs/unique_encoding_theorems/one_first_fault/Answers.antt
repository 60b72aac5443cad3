use Rattle.ov_wire.proofs.Messages.{one_first, not_both}
use Rattle.ov_wire.proofs.unique_encoding_theorems.one_first_fault.Goals as goal

pub returns : goal.returns
returns c = λ bytes f p. (λ g q. one_first bytes f g p q, λ m s. not_both m bytes f s p)
