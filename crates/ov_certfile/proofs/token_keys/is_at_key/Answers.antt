-- A name of a key is written as it is.
use Rattle.ov_certfile.proofs.Plain.{name_plain}
use Rattle.ov_certfile.proofs.token_keys.is_at_key.Goals as goal

pub is_at_text-requires : goal.is_at_text-requires
is_at_text-requires c = name_plain c.name.result.now c.args.key c.name.ensures
