use Rattle.ov_cert.proofs.Validity.Exact.{one_verdict}
use Rattle.ov_cert.proofs.valid_certificate_theorems.one_verdict.Goals as goal

pub returns : goal.returns
returns c = one_verdict
