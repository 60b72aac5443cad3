use Rattle.ov_cert.proofs.Validity.Exact.{valid_means}
use Rattle.ov_cert.proofs.valid_certificate_theorems.valid_means.Goals as goal

pub returns : goal.returns
returns c = valid_means
