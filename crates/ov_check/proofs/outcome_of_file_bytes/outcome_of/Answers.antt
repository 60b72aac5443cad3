-- Bytes that are refused have no other outcome.
use Rattle.ov_check.proofs.Outcomes.{refused_alike}
use Rattle.ov_check.proofs.outcome_of_file_bytes.outcome_of.Goals as goal

pub returns-in-Err-clause-only : goal.returns-in-Err-clause-only
returns-in-Err-clause-only c =
    refused_alike c.args.newest c.args.bytes.now c.in-Err.refusal c.of_refusal.result c.in-Err.ensures
    c.of_refusal.ensures
