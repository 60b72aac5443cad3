-- The text of a verdict is written as it is.
use Rattle.ov_certfile.proofs.Plain.{verdict_plain}
use Rattle.ov_certfile.proofs.token_keys.take_verdict.Goals as goal

pub text_before_comma-requires : goal.text_before_comma-requires
text_before_comma-requires c = verdict_plain c.text.result.now c.args.verdict c.text.ensures
