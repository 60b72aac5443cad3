-- A name of a key is written as it is.
use Rattle.ov_certfile.proofs.Plain.{name_plain}
use Rattle.ov_certfile.proofs.token_keys.take_key.Goals as goal

pub key-requires : goal.key-requires
key-requires c = name_plain c.name.result.now c.args.key c.name.ensures
