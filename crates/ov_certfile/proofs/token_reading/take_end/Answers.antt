-- The last two members, and the brace.
use Rattle.ov_certfile.proofs.Taking.{end_taken}
use Rattle.ov_certfile.proofs.token_reading.take_end.Goals as goal

pub returns-clause-taken : goal.returns-clause-taken
returns-clause-taken c =
    end_taken c.args.verdict c.in_ok-version.version c.in_ok-number.number _ _ _ _ _ c.in_ok-take_key.ensures
    c.in_ok-take_verdict.ensures c.in_ok-number.ensures.taken c.in_ok-version.ensures.number
    c.in_ok-end_object.ensures
