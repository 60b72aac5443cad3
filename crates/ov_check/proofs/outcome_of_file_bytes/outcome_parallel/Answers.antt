-- Bytes have no other outcome than the one that is returned.
use Rattle.ov_check.proofs.Outcomes.{others_alike, refused_outcome, refused_alike}
use Rattle.ov_check.proofs.outcome_of_file_bytes.outcome_parallel.Goals as goal

pub returns-in-Err-clause-outcome : goal.returns-in-Err-clause-outcome
returns-in-Err-clause-outcome g c =
    refused_outcome c.args.newest c.args.bytes.now c.in-Err.refusal c.of_refusal.result c.in-Err.ensures
    c.of_refusal.ensures

pub returns-in-Err-clause-only : goal.returns-in-Err-clause-only
returns-in-Err-clause-only g c =
    refused_alike c.args.newest c.args.bytes.now c.in-Err.refusal c.of_refusal.result c.in-Err.ensures
    c.of_refusal.ensures

pub returns-in-Ok-clause-only : goal.returns-in-Ok-clause-only
returns-in-Ok-clause-only g c = others_alike c.args.newest c.args.bytes.now c.judge_file_parallel.result
    (c.judge_file_parallel.ensures.outcome c.args.newest c.args.bytes.now c.in-Ok.ensures)
